-- Halves that are all normal are the stored values; elsewhere the call's own promise.
use mathlib.Core.Path.{sym, ap, ◌∙◌}
use Prim.Native.Nat.{◌+◌, ◌*◌, ◌≤◌}
use native.Mathlib.Omega.{arith}
use lib.ListN.{length}
use Rattle.batch.specs.Inner.{ranged}
use Rattle.batch.proofs.Laws.{halves_are, halves-there}
use Rattle.batch.proofs.fill_values.Goals as goal
use Rattle.batch.proofs.fill_values.Goals.{Then-c-eq2}

there : (c : Then-c-eq2) → let a = c.args in a.start + a.number * 2 + 128 ≤ length a.s.now
there c = halves-there _ _ _ _ c.if-c-eq2.true c.requires.0

pub overflow_add-at : goal.overflow_add-at
overflow_add-at c = omega (arith, there (goal.at.overflow_add-at c).Then-c-eq2)

pub are_normal-requires : goal.are_normal-requires
are_normal-requires c = there (goal.at.are_normal-requires c).Then-c-eq2

pub fill_normal-requires : goal.fill_normal-requires
fill_normal-requires c = (there (goal.at.fill_normal-requires c).Then-c-eq2, sym c.are_normal.ensures ∙ c.if-are_normal.true, c.requires.1)

pub returns-then-are_normal : goal.returns-then-are_normal
returns-then-are_normal c = c.fill_normal.ensures ∙ ap (ranged _ _ 64) (halves_are _ c.args.c _ _ c.if-c-eq2.true)
