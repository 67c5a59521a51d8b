-- What is next from the place reached is the whole answer.
use mathlib.Core.Path.{◌≡◌}
use Prim.Native.Nat.{◌*◌}
use Rattle.masks.specs.Masks.{mask_bit}
use Rattle.masks.specs.Inner.{next_one}
use Rattle.masks.proofs.next_in_words.Given as goal

abbrev pub invariant-loop-k : goal.invariant-loop-k
invariant-loop-k l = next_one (mask_bit l.s l.at) (8 * l.n) (8 * (8 * l.k)) ≡ next_one (mask_bit l.s l.at) (8 * l.n) (8 * l.from)
