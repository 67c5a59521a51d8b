-- A leaf is left as long as a slot is, so neither the end nor a refusal comes; each leaf is a law of `Laying`.
use native.Mathlib.Omega.{arith}
use Prim.Native.Nat.{◌≤◌, ◌<◌}
use lib.ListN.{length}
use Rattle.cursor.specs.Inner.{to_come}
use Rattle.skip.proofs.Laws.{records_in}
use Rattle.skip.proofs.Few.{few-records}
use Rattle.leaves.specs.Inner.{start_cursor, leaves_from}
use Rattle.leaves.proofs.Next.{most, next-leaf, no_end, no-refusal}
use Rattle.origins.proofs.Laws.{starts, one_more, full, filled}
use Rattle.origins.proofs.origins_run.Goals as goal
use Rattle.origins.proofs.origins_run.Goals.{After-skip}

-- a leaf is left
some_left : (c : After-skip) → let l = c.loop-i in l.pass < length (leaves_from c.args.s.now c.args.start.coding l.cursor)
some_left c = one_more c.loop-i.invariant.1 (omega (arith, c.loop-i-test.true, c.loop-i.auto))

pub loop-i-init : goal.loop-i-init
loop-i-init c =
    let few : records_in c.args.s.now (to_come c.args.s.now c.args.start.coding (start_cursor c.args.start)).items ≤ most =
    omega (arith, few-records c.args.s.now c.args.start.coding c.args.start.root_count c.args.start.roots_pos c.args.start.block_pos, c.requires.0.few) in
    rw c.between_roots-cursor.ensures (few, starts c.requires.1 c.requires.2 c.requires.0.there)

pub unreachable-requires : goal.unreachable-requires
unreachable-requires c =
    no_end _ _ c.requires.0.width _ c.loop-i.invariant.0 _ (some_left (goal.at.unreachable-requires c).After-skip) (rw c.in-Ok-End.field-0-is at c.in-Ok-End.ensures)

pub unreachable-requires-in-Err : goal.unreachable-requires-in-Err
unreachable-requires-in-Err c =
    no-refusal _ _ c.requires.0.width _ c.loop-i.invariant.0 _ (some_left (goal.at.unreachable-requires-in-Err c).After-skip) c.in-Err.ensures

pub loop-i-preserved : goal.loop-i-preserved
loop-i-preserved c =
    let i = c.loop-i.invariant in
    let n = next-leaf _ _ c.requires.0.width _ i.0 _ (rw c.in-Ok-Before.field-0-is at c.in-Ok-Before.ensures) in
    (n.few, filled i.1 n.front _ _ n.split n.passed (omega (arith, c.loop-i-test.true, c.loop-i.auto)) c.put_origin.ensures)

pub returns : goal.returns
returns c = rw (← c.between_roots-cursor.ensures) (full c.loop-i.invariant.1 (omega (arith, c.loop-i-test.false, c.loop-i.auto)))
