-- The ones below the place reached are counted.
use mathlib.Core.Path.{◌≡◌}
use Prim.Native.Nat.{◌*◌}
use Rattle.masks.specs.Masks.{mask_bit, count_below}
use Rattle.masks.proofs.count_ones.Given as goal

abbrev pub invariant-loop-k : goal.invariant-loop-k
invariant-loop-k l = l.count ≡ count_below (mask_bit l.s l.at) (8 * (8 * l.k))
