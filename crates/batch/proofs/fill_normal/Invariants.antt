-- k slots have the first k halves widened.
use Prim.Native.Nat.{◌+◌, ◌*◌}
use Rattle.fields.specs.Le.{u16_at}
use Rattle.half.specs.Half.{widened}
use Rattle.batch.proofs.Laws.{Filling}
use Rattle.batch.proofs.fill_normal.Given as goal

abbrev pub invariant-loop-k : goal.invariant-loop-k
invariant-loop-k l = Filling l.initial.slots l.slot (λ j. widened (u16_at l.s (l.at + j * 2))) l.slots l.k
