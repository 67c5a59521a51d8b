-- The lowest one that is left is below 64; each step and the end are laws of `Setting`.
use mathlib.Core.Path.{refl}
use Prim.Native.Nat.{◌^◌, ◌<◌}
use native.Mathlib.Omega.{arith}
use lib.Count.{count_trailing_zeros}
use Rattle.masks.proofs.Ones.{Lowest}
use Rattle.batch.proofs.Laws.{left-small, found, setting-none, setting-all, setting-next}
use Rattle.batch.proofs.put_same.Goals as goal
use Rattle.batch.proofs.put_same.Goals.{In-loop-left, Start}

small : (c : Start) → c.args.ones < 2 ^ 64
small c = omega (arith, c.ranges.ones)

-- the next one
next : (c : In-loop-left) → Lowest c.args.ones c.loop-left.invariant.0 (count_trailing_zeros 64 c.loop-left.left)
next c = found (omega (arith, c.ranges.ones)) c.loop-left.invariant.1 c.loop-left-test.true

pub loop-left-init : goal.loop-left-init
loop-left-init c = (0, setting-none c.requires)

pub overflow_cast-slots : goal.overflow_cast-slots
overflow_cast-slots c = omega (arith, (next (goal.at.overflow_cast-slots c).In-loop-left).inside)

pub offset_bounds-slots-left : goal.offset_bounds-slots-left
offset_bounds-slots-left c = omega (arith, (next (goal.at.offset_bounds-slots-left c).In-loop-left).inside)

pub bounds-slots-left : goal.bounds-slots-left
bounds-slots-left c = omega (arith, (next (goal.at.bounds-slots-left c).In-loop-left).inside, c.loop-left.invariant.1.many)

pub past_lowest-left-requires : goal.past_lowest-left-requires
past_lowest-left-requires c = (left-small (small (goal.at.past_lowest-left-requires c).Start) c.loop-left.invariant.1, c.loop-left-test.true)

pub loop-left-preserved : goal.loop-left-preserved
loop-left-preserved c = (_, setting-next (small (goal.at.loop-left-preserved c).Start) c.loop-left.invariant.1 c.loop-left-test.true refl c.past_lowest-left.ensures.0)

pub returns : goal.returns
returns c = setting-all (small (goal.at.returns c).Start) c.loop-left.invariant.1 c.loop-left-test.false
