-- Each turn finds the next one of the mask, which is there as long as ones are left to pass.
use mathlib.Core.Path.{refl}
use native.Mathlib.Omega.{arith}
use Rattle.nth.proofs.Laws.{one-missing, next-below, next-behind, one-here, one_on}
use Rattle.nth.proofs.one_from.Goals as goal

pub loop-q-init : goal.loop-q-init
loop-q-init c = (c.requires.1, refl)

pub next_one-requires : goal.next_one-requires
next_one-requires c = (c.requires.0, c.loop-q.invariant.0)

pub returns-then-left-eq0 : goal.returns-then-left-eq0
returns-then-left-eq0 c = one-here _ _ c.loop-q.p _ _ c.loop-q.invariant.1 _ c.in-Some.ensures c.if-left-eq0.true

pub overflow_add-p : goal.overflow_add-p
overflow_add-p c = omega (arith, next-below _ _ c.loop-q.p _ _ c.loop-q.invariant.1 _ c.in-Some.ensures, c.requires.0.small)

pub loop-q-smaller : goal.loop-q-smaller
loop-q-smaller c = omega (arith, next-below _ _ c.loop-q.p _ _ c.loop-q.invariant.1 _ c.in-Some.ensures, next-behind _ _ c.loop-q.p _ _ c.loop-q.invariant.1 _ c.in-Some.ensures)

pub loop-q-preserved : goal.loop-q-preserved
loop-q-preserved c =
    (omega (arith, next-below _ _ c.loop-q.p _ _ c.loop-q.invariant.1 _ c.in-Some.ensures), one_on _ _ c.loop-q.p _ _ c.loop-q.invariant.1 _ c.in-Some.ensures c.if-left-eq0.false)

pub returns : goal.returns
returns c = absurd (one-missing _ _ c.loop-q.p _ _ c.loop-q.invariant.1 c.loop-q.invariant.0 c.requires.2 c.in_default.ensures)
