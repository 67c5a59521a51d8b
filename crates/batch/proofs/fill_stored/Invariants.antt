-- k slots have the first k values, each of which lies in the file.
use Rattle.batch.specs.Inner.{numbered}
use Rattle.batch.proofs.Laws.{Filling}
use Rattle.batch.proofs.fill_stored.Given as goal

abbrev pub invariant-loop-k : goal.invariant-loop-k
invariant-loop-k l = Filling l.initial.slots l.slot (numbered l.s l.c l.start l.number) l.slots l.k
