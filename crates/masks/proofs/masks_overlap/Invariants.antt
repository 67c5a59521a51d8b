-- No place below the place reached is a one of both.
use mathlib.Core.Path.{◌≡◌}
use mathlib.Core.Bool.{false}
use Prim.Native.Nat.{◌*◌}
use Rattle.masks.specs.Masks.{mask_bit, overlap}
use Rattle.masks.proofs.masks_overlap.Given as goal

abbrev pub invariant-loop-k : goal.invariant-loop-k
invariant-loop-k l = overlap (mask_bit l.s l.a) (mask_bit l.s l.b) (8 * (8 * l.k)) ≡ false
