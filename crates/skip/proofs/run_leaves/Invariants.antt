-- From the leaf reached the same comes of the run as from the first.
use Rattle.skip.specs.Inner.{LeavesRan}
use Rattle.skip.proofs.run_leaves.Given as goal

abbrev pub invariant-loop-leaves : goal.invariant-loop-leaves
invariant-loop-leaves l =
    LeavesRan l.s l.c l.origin l.child (record { next = l.initial.next; at = l.initial.at; block = l.initial.block; records = l.initial.records; leaves = l.initial.leaves })
    (record { next = l.next; at = l.at; block = l.block; records = l.records; leaves = l.leaves })

abbrev pub decreases-loop-leaves : goal.decreases-loop-leaves
decreases-loop-leaves l = l.leaves
