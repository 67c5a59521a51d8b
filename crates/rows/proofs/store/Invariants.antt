-- What is left to store from here comes to the whole.
use Rattle.slots.specs.Slots.{slots_of}
use Rattle.rows.proofs.Columns.{Storing}
use Rattle.rows.proofs.store.Given as goal

abbrev pub invariant-loop-i : goal.invariant-loop-i
invariant-loop-i l = Storing (slots_of l.x l.y l.z l.level l.value) l.initial.row l.row l.i
