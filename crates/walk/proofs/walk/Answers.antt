-- Each way out does what it should, and that keeps the promise.
use mathlib.Core.Path.{◌≡◌, refl, sym, ◌∙◌}
use mathlib.Core.Bool.{true}
use Rattle.slots.specs.Slots.{Slots, slots_of, slot_count}
use Rattle.place.specs.Inner.{HandedOn}
use Rattle.walk.specs.Inner.{is_wide, wanted, course_from}
use Rattle.walk.proofs.Wide.{wide-width, told-wide}
use Rattle.walk.proofs.Laws.{count_room, walks-by, left-enough, does-nothing, not_wide, none_found, some-found, keeps}
use Rattle.walk.proofs.walk.Goals.{After-hand_on-at, After-is_wide, Else-not-is_wide}
use Rattle.walk.proofs.walk.Goals as goal

-- the slots that are lent, and that some of them are wanted
module _ (c : After-is_wide) where
  abbrev lent : Slots
  lent = let a = c.args in slots_of a.x.now a.y.now a.z.now a.level.now a.value.now

  some-wanted : wanted c.args.p (slot_count lent) ≡ 0 → ⊥
  some-wanted e = c.if-limit-eq0.false (c.record_count-limit.ensures ∙ e)

wide : (c : Else-not-is_wide) → is_wide c.args.p.start.coding.width ≡ true
wide c = sym (told-wide _ c.is_wide.ensures) ∙ c.if-not-is_wide.false

-- the slots once the records are handed out, and that the call went on from the place given
module _ (c : After-hand_on-at) where
  abbrev before : Slots
  before = let a = c.args in slots_of a.x.now a.y.now a.z.now a.level.now a.value.now

  abbrev left : Slots
  left = let n = c.hand_on-at.new in slots_of n.x n.y n.z n.level n.value

  walks : HandedOn (course_from c.args.s.now c.args.p (slot_count before)) before left c.hand_on-at.result
  walks = walks-by _ c.args.p _ c.record_count-limit.ensures c.hand_on-at.ensures

pub returns-then-limit-eq0 : goal.returns-then-limit-eq0
returns-then-limit-eq0 c = keeps _ _ _ (does-nothing _ _ _ (sym c.record_count-limit.ensures ∙ c.if-limit-eq0.true) refl)

pub returns-then-not-is_wide : goal.returns-then-not-is_wide
returns-then-not-is_wide c =
    keeps _ _ _ (not_wide _ _ _ (some-wanted (goal.at.returns-then-not-is_wide c).After-is_wide) (sym (told-wide _ c.is_wide.ensures) ∙ c.if-not-is_wide.true))

pub hand_on-at-requires : goal.hand_on-at-requires
hand_on-at-requires c = (wide-width _ (wide (goal.at.hand_on-at-requires c).Else-not-is_wide), count_room _ _ _ c.record_count-limit.ensures)

pub returns-then-at-eq0 : goal.returns-then-at-eq0
returns-then-at-eq0 c =
    let at = goal.at.returns-then-at-eq0 c in
    keeps _ _ _ (none_found _ c.args.p _ (some-wanted at.After-is_wide) (wide at.Else-not-is_wide) (walks at.After-hand_on-at) c.if-at-eq0.true)

pub moved_to-next-requires : goal.moved_to-next-requires
moved_to-next-requires c = left-enough _ c.args.p _ (walks (goal.at.moved_to-next-requires c).After-hand_on-at)

pub returns : goal.returns
returns c =
    let at = goal.at.returns c in
    keeps _ _ _ (some-found _ c.args.p _ (some-wanted at.After-is_wide) (wide at.Else-not-is_wide) (walks at.After-hand_on-at) c.if-at-eq0.false c.moved_to-next.ensures refl)
