-- Whether the masks agree below the place reached.
use mathlib.Core.Path.{◌≡◌}
use Prim.Native.Nat.{◌*◌}
use Rattle.masks.specs.Masks.{mask_bit, agree}
use Rattle.masks.proofs.masks_equal.Given as goal

abbrev pub invariant-loop-k : goal.invariant-loop-k
invariant-loop-k l = l.same ≡ agree (mask_bit l.s l.a) (mask_bit l.s l.b) (8 * (8 * l.k))
