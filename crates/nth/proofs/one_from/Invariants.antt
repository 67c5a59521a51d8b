-- The ones below the place reached and those that are left to pass make the number that is asked for.
use mathlib.Core.Path.{◌≡◌}
use Prim.Native.Nat.{◌+◌, ◌-◌, ◌*◌, ◌≤◌}
use Rattle.masks.specs.Masks.{mask_bit, count_below}
use Rattle.nth.proofs.one_from.Given as goal

abbrev pub invariant-loop-q : goal.invariant-loop-q
invariant-loop-q l = (l.p ≤ 8 * l.n) × (count_below (mask_bit l.s l.at) l.p + l.left ≡ count_below (mask_bit l.s l.at) l.from + l.k)

abbrev pub decreases-loop-q : goal.decreases-loop-q
decreases-loop-q l = 8 * l.n - l.p
