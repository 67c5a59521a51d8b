-- The invariant: what is filled, with what is to come, is the whole run. The loop ends because behind each piece fewer are to come.
use mathlib.Core.Path.{◌≡◌}
use Prim.Native.Nat.{◌-◌, ◌/◌, ◌%◌, ◌≤◌}
use lib.ListN.{length, take}
use Rattle.cursor.specs.Inner.{to_come}
use Rattle.leaves.specs.Inner.{leaves_from, values_in, values_of}
use Rattle.leaves.proofs.Laws.{Filling}
use Rattle.leaves.proofs.fill_run.Given as goal

abbrev pub invariant-loop-at : goal.invariant-loop-at
invariant-loop-at l =
    (l.at ≤ length l.slots) × ((length l.slots - l.at) % 512 ≡ 0)
    × Filling (values_in l.s l.c) (leaves_from l.s l.c l.cursor) 0 ((length l.slots - l.at) / 512) (take l.at l.slots) (values_of l.s l.c (leaves_from l.s l.c l.initial.cursor) 0 (length l.initial.slots / 512))

abbrev pub decreases-loop-at : goal.decreases-loop-at
decreases-loop-at l = length (to_come l.s l.c l.cursor).items
