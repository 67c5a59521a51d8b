-- The first slots are filled. Each turn but the last fills one more at least.
use Rattle.std.proofs.Common.{◌-◌, length}
use Rattle.slots.specs.Slots.{slots_of}
use Rattle.rows.proofs.Filling.{Filling, Scratch}
use Rattle.rows.proofs.walk_records.Given as goal

abbrev pub invariant-loop-past : goal.invariant-loop-past
invariant-loop-past l = record { filling : Filling l.fn.s l.fn.p l.fn.slots l.past l.slots; scratch : Scratch (slots_of l.x l.y l.z l.level l.value) }

abbrev pub decreases-loop-past : goal.decreases-loop-past
decreases-loop-past l = length l.initial.slots - l.past.filled
