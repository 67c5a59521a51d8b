-- From the 4-node reached the same comes of the run as from the first.
use Prim.Native.Nat.{◌-◌}
use Rattle.skip.specs.Inner.{RanTo, InNode5}
use Rattle.skip.proofs.run_nodes.Given as goal

abbrev pub invariant-loop-p : goal.invariant-loop-p
invariant-loop-p l = InNode5 l.s l.t × RanTo l.s l.c l.initial.t l.t

abbrev pub decreases-loop-p : goal.decreases-loop-p
decreases-loop-p l = 32768 - l.t.cursor.node5.next
