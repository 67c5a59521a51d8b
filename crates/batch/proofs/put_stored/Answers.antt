-- The lowest one that is left is below 64, and its stored value lies in the file; each step and the end are laws of `Setting`.
use mathlib.Core.Path.{ap, ◌∙◌}
use Prim.Native.Nat.{ℕ, ◌+◌, ◌^◌, ◌<◌}
use native.Mathlib.Omega.{arith}
use lib.Count.{count_trailing_zeros}
use lib.ListN.{length}
use Rattle.masks.specs.Masks.{digit}
use Rattle.masks.proofs.Laws.{ones_none}
use Rattle.masks.proofs.Ones.{Lowest}
use Rattle.values.specs.Inner.{InRun}
use Rattle.batch.proofs.Laws.{left-small, found, setting-none, setting-all, count-all, setting-next, count_next, value_there, value-is}
use Rattle.batch.proofs.put_stored.Goals as goal
use Rattle.batch.proofs.put_stored.Goals.{In-loop-left, Start}

small : (c : Start) → c.args.ones < 2 ^ 64
small c = omega (arith, c.ranges.ones)

-- the next one, and its stored value
next : (c : In-loop-left) → Lowest c.args.ones c.loop-left.invariant.0 (count_trailing_zeros 64 c.loop-left.left)
next c = found (omega (arith, c.ranges.ones)) c.loop-left.invariant.1 c.loop-left-test.true

there : (c : In-loop-left) → InRun c.args.s.now c.args.c c.args.start c.loop-left.k
there c = value_there (next c) _ _ _ _ c.loop-left.invariant.2 c.requires.0

pub loop-left-init : goal.loop-left-init
loop-left-init c = (0, setting-none c.requires.1, omega (arith, ap length (ones_none (digit c.args.ones) 0)))

pub stored_value-requires : goal.stored_value-requires
stored_value-requires c = (c.requires.0.width, there (goal.at.stored_value-requires c).In-loop-left)

pub overflow_cast-slots : goal.overflow_cast-slots
overflow_cast-slots c = omega (arith, (next (goal.at.overflow_cast-slots c).In-loop-left).inside)

pub bounds-slots-left : goal.bounds-slots-left
bounds-slots-left c = omega (arith, (next (goal.at.bounds-slots-left c).In-loop-left).inside, c.loop-left.invariant.1.many)

pub past_lowest-left-requires : goal.past_lowest-left-requires
past_lowest-left-requires c = (left-small (small (goal.at.past_lowest-left-requires c).Start) c.loop-left.invariant.1, c.loop-left-test.true)

pub overflow_add-k : goal.overflow_add-k
overflow_add-k c = omega (arith, (there (goal.at.overflow_add-k c).In-loop-left).0)

pub loop-left-preserved : goal.loop-left-preserved
loop-left-preserved c = let a = c.args in let i = c.loop-left.invariant in (
  _,
  setting-next (small (goal.at.loop-left-preserved c).Start) i.1 c.loop-left-test.true (value-is (next (goal.at.loop-left-preserved c).In-loop-left) a.s.now a.c a.start a.number i.2 c.stored_value.ensures) c.past_lowest-left.ensures.0,
  count_next (next (goal.at.loop-left-preserved c).In-loop-left) a.number i.2,
)

pub returns : goal.returns
returns c = let i = c.loop-left.invariant in
    (setting-all (small (goal.at.returns c).Start) i.1 c.loop-left-test.false, i.2 ∙ ap (λ (n : ℕ). c.args.number + n) (count-all (small (goal.at.returns c).Start) i.1 c.loop-left-test.false))
