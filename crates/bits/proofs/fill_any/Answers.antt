-- Each turn hands out the next active place, or ends where no place is wanted, none is active, or a value lies past the end.
use mathlib.Core.Path.{◌≡◌, refl}
use native.Mathlib.Omega.{arith}
use Rattle.slots.proofs.Laws.{same, in-room, put_same, put-room, room-less}
use Rattle.slots.proofs.Levels.{masked}
use Rattle.bits.proofs.Laws.{starts, goes, ends, hand-full, hand-none, turn_one, turn-cut, word-past, sums-fit, Active, active-there, readable-past, record_is, run_is}
use Rattle.bits.proofs.fill_any.Goals.{After-to_active-b}
use Rattle.bits.proofs.fill_any.Goals as goal

-- what is known once the next active place is reached
there : (c : goal.After-to_active-b) → let a = c.args in Active a.s.now a.c a.room c.to_active-b.result
there c =
    let l = c.loop-at in
    active-there _ _ _ l.b _ l.invariant.1 l.invariant.2 c.if-b-eq0.false c.to_active-b.ensures

pub loop-at-init : goal.loop-at-init
loop-at-init c = let p = c.requires in (omega arith, p.0, p.1, p.2, same _, starts _ _ _)

pub pass-requires : goal.pass-requires
pass-requires c = let l = c.loop-at in (omega arith, sums-fit _ _ _ l.b l.invariant.1 l.invariant.2)

pub returns-then-b-eq0 : goal.returns-then-b-eq0
returns-then-b-eq0 c =
    let l = c.loop-at in
    ends l.invariant.5 (hand-none _ l.b l.invariant.2 _ _ (omega (arith, c.loop-at-test.true)) c.if-b-eq0.true) (run_is c.pass.ensures refl refl)

pub to_active-b-requires : goal.to_active-b-requires
to_active-b-requires c = let l = c.loop-at in (sums-fit _ _ _ l.b l.invariant.1 l.invariant.2, l.invariant.2.value-bits.below, c.if-b-eq0.false)

pub returns-then-room-w : goal.returns-then-room-w
returns-then-room-w c =
    let l = c.loop-at in
    ends l.invariant.5 (turn-cut _ _ _ l.b _ l.invariant.1 l.invariant.2 c.if-b-eq0.false c.to_active-b.ensures _ _ c.loop-at-test.true c.if-room-w.true) refl

pub stored_value-v-requires : goal.stored_value-v-requires
stored_value-v-requires c =
    let a = there (goal.at.stored_value-v-requires c).After-to_active-b in
    let w = c.to_active-b.result.inside in
    let m = masked w.level in (
      a.readable.width,
      (
        omega (arith, a.readable.number, a.word.places, a.some_left, m.small, m.bits),
        in-room _ _ _ w.number a.readable.width (rw a.readable.values at c.if-room-w.false),
      ),
    )

pub corner-requires : goal.corner-requires
corner-requires c = let a = there (goal.at.corner-requires c).After-to_active-b in (omega (arith, a.word.places, a.some_left), a.readable.multiple)

pub put_record-requires : goal.put_record-requires
put_record-requires c = room-less _ (omega (arith, c.loop-at-test.true)) c.loop-at.invariant.3

pub past_active-b-requires : goal.past_active-b-requires
past_active-b-requires c = let a = there (goal.at.past_active-b-requires c).After-to_active-b in (sums-fit _ _ _ _ a.readable a.word, a.some_left)

pub loop-at-preserved : goal.loop-at-preserved
loop-at-preserved c =
    let l = c.loop-at in
    let a = there (goal.at.loop-at-preserved c).After-to_active-b in
    let r = c.to_active-b in
    let w = c.put_record.ensures in (
      omega (arith, c.loop-at-test.true),
      rw c.past_active-b.ensures (readable-past _ _ _ r.result 1 a.readable),
      rw c.past_active-b.ensures (word-past _ r.result a.word 1 _ a.some_left),
      put-room _ _ _ _ w l.invariant.3,
      put_same _ _ _ _ w l.invariant.4,
      goes l.invariant.5 (turn_one _ _ _ l.b r.result l.invariant.1 l.invariant.2 c.if-b-eq0.false r.ensures _ l.at
          c.loop-at-test.true c.if-room-w.false
          (record_is _ _ r.result.inside c.corner.ensures c.stored_value-v.ensures)
          c.past_active-b.ensures) w,
    )

pub returns : goal.returns
returns c =
    let l = c.loop-at in
    let e : c.max.result ≡ l.at = omega (arith, c.max.ensures, l.invariant.0, c.loop-at-test.false, l.auto.at) in
    ends l.invariant.5 (hand-full _ _ _ _ _ _ (omega (arith, c.loop-at-test.false))) (run_is refl e refl)
