-- The invariant: k slots have the coordinates of the first k corners.
use Rattle.slots.specs.Inner.{corner_at, axis_of}
use Rattle.batch.proofs.Laws.{Filling}
use Rattle.slots.proofs.fill_axis.Given as goal

abbrev pub invariant-loop-k : goal.invariant-loop-k
invariant-loop-k l = Filling l.initial.x l.slot (λ j. axis_of (corner_at l.w j) l.axis) l.x l.k
