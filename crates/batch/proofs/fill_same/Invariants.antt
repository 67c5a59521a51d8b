-- k slots have the value.
use Rattle.batch.proofs.Laws.{Filling}
use Rattle.batch.proofs.fill_same.Given as goal

abbrev pub invariant-loop-k : goal.invariant-loop-k
invariant-loop-k l = Filling l.initial.slots l.slot (λ j. l.x) l.slots l.k
