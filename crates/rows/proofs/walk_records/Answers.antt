-- Each call of the core fills more of the row; where the walk ends the row is as one call leaves it.
use native.Mathlib.Omega.{arith}
use mathlib.Core.Path.{◌≡◌, refl}
use Prim.Native.Nat.{◌+◌, ◌-◌, ◌≤◌, min}
use borrow.Rule.Slice.PartMut.{put_mid}
use mathlib.Core.List.{map}
use lib.ListN.{length, take, drop, length-take}
use lib.Seq.{sets}
use Rattle.walk.specs.Demand3.{rows}
use Rattle.rows.specs.Rows.{row_of}
use Rattle.slots.specs.Slots.{Slots, slots_of, slot_count}
use Rattle.rows.proofs.Filling.{begin, full, refused-first, refused-later, no_more, goes_on, ended, lent-count, lent-long, scratch-back, scratch-room, behind}
use Rattle.rows.proofs.walk_records.Goals as goal
use Rattle.rows.proofs.walk_records.Goals.{After-min-size, In-Ok, After-store}

-- the slots that are lent to the core, as many as are left, but no more than 64
abbrev lent : After-min-size → Slots
lent c = let l = c.loop-past in slots_of l.x l.y l.z l.level (take c.min-size.result l.value)

counted : (c : After-min-size) → let l = c.loop-past in slot_count (lent c) ≡ min (length l.slots - l.past.filled) 64
counted c = let l = c.loop-past in lent-count (slots_of l.x l.y l.z l.level l.value) _ _ l.invariant.scratch c.min-size.ensures

-- no more slots are filled than are left
few : (c : In-Ok) → let l = c.loop-past in l.past.filled + c.in-Ok.w.filled ≤ length l.slots
few c =
    let at = (goal.at.In-Ok c).After-min-size in
    let l = c.loop-past in
    omega (arith, l.invariant.filling.few, no_more l.invariant.filling (lent at) c.loop-past-test.true (counted at) c.in-Ok.ensures)

stored : (c : After-store) → let l = c.loop-past in let n = c.walk.new in
    put_mid l.past.filled (l.past.filled + c.in-Ok.w.filled - l.past.filled) l.slots c.store.new.row
    ≡ sets l.slots l.past.filled (map row_of (rows (slots_of n.x n.y n.z n.level n.value) 0 c.in-Ok.w.filled))
stored c =
    let at = goal.at.After-store c in
    let l = c.loop-past in
    let n = c.walk.new in
    let m = no_more l.invariant.filling (lent at.After-min-size) c.loop-past-test.true (counted at.After-min-size) c.in-Ok.ensures in
    let k = lent-long _ _ l.value n.value c.min-size.ensures l.invariant.scratch.in-value c.walk.auto.value in
    behind l.slots l.past.filled c.in-Ok.w.filled n.x n.y n.z n.level n.value _ (few at.In-Ok) (omega (arith, m, k)) c.store.ensures

pub loop-past-init : goal.loop-past-init
loop-past-init c = record { filling = begin _ _ _; scratch = record { in-x = refl; in-y = refl; in-z = refl; in-level = refl; in-value = refl } }

pub returns-in-Err : goal.returns-in-Err
returns-in-Err c =
    let at = (goal.at.returns-in-Err c).After-min-size in
    refused-first c.loop-past.invariant.filling (lent at) c.loop-past-test.true (counted at) c.in-Err.ensures c.if-past-eq0.true

pub returns-in-Err-2 : goal.returns-in-Err-2
returns-in-Err-2 c =
    let at = (goal.at.returns-in-Err-2 c).After-min-size in
    refused-later c.loop-past.invariant.filling (lent at) c.loop-past-test.true (counted at) c.in-Err-2.ensures c.if-past-eq0.false

pub overflow_add-end : goal.overflow_add-end
overflow_add-end c = let h = few (goal.at.overflow_add-end c).In-Ok in record { fits = omega arith }

pub slice_bounds-row-end : goal.slice_bounds-row-end
slice_bounds-row-end c = let h = few (goal.at.slice_bounds-row-end c).In-Ok in omega arith

pub store-requires : goal.store-requires
store-requires c =
    let at = goal.at.store-requires c in
    let l = c.loop-past in
    let k = c.walk.auto in
    let m = no_more l.invariant.filling (lent at.After-min-size) c.loop-past-test.true (counted at.After-min-size) c.in-Ok.ensures in
    let all = scratch-back (slots_of l.x l.y l.z l.level l.value) _ _ _ _ _ _ l.invariant.scratch k.x k.y k.z k.level k.value in
    scratch-room _ _ all (omega (arith, m, length-take (l.past.filled + c.in-Ok.w.filled - l.past.filled) (drop l.past.filled l.slots)))

pub returns-then-w-eq0 : goal.returns-then-w-eq0
returns-then-w-eq0 c =
    let at = goal.at.returns-then-w-eq0 c in
    ended c.loop-past.invariant.filling (lent at.After-min-size) c.loop-past-test.true (counted at.After-min-size) c.in-Ok.ensures (stored at.After-store) c.if-w-eq0.true

pub loop-past-preserved : goal.loop-past-preserved
loop-past-preserved c =
    let at = goal.at.loop-past-preserved c in
    let l = c.loop-past in
    let k = c.walk.auto in
    record {
      filling = goes_on l.invariant.filling (lent at.After-min-size) c.loop-past-test.true (counted at.After-min-size) c.in-Ok.ensures (stored at.After-store) c.if-w-eq0.false;
      scratch = scratch-back (slots_of l.x l.y l.z l.level l.value) _ _ _ _ _ _ l.invariant.scratch k.x k.y k.z k.level k.value;
    }

pub returns : goal.returns
returns c = full c.loop-past.invariant.filling c.loop-past-test.false
