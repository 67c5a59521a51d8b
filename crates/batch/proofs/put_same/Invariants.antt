-- The invariant: the ones before some place are set, and those from there on are left. The loop ends because fewer are.
use Prim.Native.Nat.{ℕ}
use Rattle.batch.proofs.Laws.{Setting}
use Rattle.batch.proofs.put_same.Given as goal

abbrev pub invariant-loop-left : goal.invariant-loop-left
invariant-loop-left l = (p : ℕ) × Setting (λ i. l.x) l.ones l.initial.slots l.slots l.left p

abbrev pub decreases-loop-left : goal.decreases-loop-left
decreases-loop-left l = l.left
