-- The next 4-node's place is none that is passed.
use native.Mathlib.Omega.{arith}
use Rattle.skip.proofs.Nodes.{child-mask5, below5, later5}
use Rattle.skip.proofs.run_nodes.Goals as goal

pub next_one-requires : goal.next_one-requires
next_one-requires c = child-mask5 _ c.args.c _ c.loop-p.invariant.0

pub loop-p-smaller : goal.loop-p-smaller
loop-p-smaller c =
    let i = c.loop-p.invariant.0 in
    omega (arith, c.in-Passed.ensures.next, below5 _ c.args.c _ i c.in-Some.ensures, later5 _ c.args.c _ i c.in-Some.ensures)
