-- The ones of the words passed and those that are left to pass make the number that is asked for.
use mathlib.Core.Path.{◌≡◌}
use Prim.Native.Nat.{◌+◌, ◌*◌}
use Rattle.masks.specs.Masks.{mask_bit, count_below}
use Rattle.nth.proofs.nth_one.Given as goal

abbrev pub invariant-loop-j : goal.invariant-loop-j
invariant-loop-j l = count_below (mask_bit l.s l.at) (8 * (8 * l.j)) + l.left ≡ l.k
