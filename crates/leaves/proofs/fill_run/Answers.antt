-- A leaf is left as long as slots are, so neither the end nor a refusal comes; each piece is a law of `Filling`.
use borrow.Rule.Slice.PartMut.{same_len_mid}
use borrow.Author.Tests.{eqb-true, eqb-false}
use mathlib.Core.Path.{◌≡◌, refl, sym, ap, ◌∙◌}
use mathlib.Core.List.{List, [], ◌++◌}
use Prim.Native.Nat.{ℕ, ◌+◌, ◌-◌, ◌/◌, ◌≤◌, ◌<◌}
use native.Mathlib.Omega.{arith}
use lib.ListN.{length, take, length-drop}
use lib.Seq.{take_all}
use Rattle.tree.specs.Active.{Piece}
use Rattle.cursor.specs.Inner.{stop, to_come, piece_of}
use Rattle.cursor.proofs.Step.{follows}
use Rattle.expand.proofs.Laws.{lent, put-behind}
use Rattle.leaves.specs.Inner.{start_cursor, leaves_from, values_of}
use Rattle.leaves.proofs.Laws.{starts, one_more, full, filled, no-slots}
use Rattle.leaves.proofs.Next.{held-leaf, leaf-next, none-next, no-piece}
use Rattle.leaves.proofs.fill_run.Goals as goal
use Rattle.leaves.proofs.fill_run.Goals.{After-next_piece, In-Ok-Some}

-- a leaf is left, so that neither the end nor a refusal comes
some_left : (c : After-next_piece) → 0 < length (leaves_from c.args.s.now c.args.start.coding c.loop-at.cursor)
some_left c = let i = c.loop-at.invariant in one_more i.2 (omega (arith, i.1, c.loop-at-test.true))

next : (c : In-Ok-Some) → let s = c.args.s.now in let k = c.args.start.coding in
    stop (piece_of c.in-Ok-Some.next.0) c.in-Ok-Some.next.1 (to_come s k c.in-Ok-Some.next.1) ≡ to_come s k c.loop-at.cursor
next c = rw c.in-Ok-Some.field-0-is at c.in-Ok-Some.ensures

-- a leaf, and its slots
fits : (c : In-Ok-Some) → c.loop-at.at + 512 ≤ length c.loop-at.slots
fits c = let i = c.loop-at.invariant in omega (arith, i.0, i.1, c.loop-at-test.true)

pub returns-then-is_empty : goal.returns-then-is_empty
returns-then-is_empty c = let a = c.args in no-slots _ (leaves_from a.s.now a.start.coding (start_cursor a.start)) a.first _ (eqb-true _ 0 (sym c.is_empty.ensures ∙ c.if-is_empty.true))

pub behind_leaves-cursor-requires : goal.behind_leaves-cursor-requires
behind_leaves-cursor-requires c =
    let some = eqb-false _ 0 (sym c.is_empty.ensures ∙ c.if-is_empty.false) in
    record { width = c.requires.0.width; few = c.requires.0.few; there = omega (arith, c.requires.0.there, c.requires.1, some) }

pub loop-at-init : goal.loop-at-init
loop-at-init c =
    let a = c.args in
    let whole : length a.slots.now - 0 ≡ length a.slots.now = omega arith in
    let many = ap length c.behind_leaves-cursor.ensures ∙ length-drop a.first (leaves_from a.s.now a.start.coding (start_cursor a.start)) in
    (omega arith, rw whole c.requires.1, rw whole (starts (omega (arith, many, c.requires.0.there))))

pub unreachable-requires : goal.unreachable-requires
unreachable-requires c =
    omega (arith, some_left (goal.at.unreachable-requires c).After-next_piece, no-piece _ _ _ (rw c.in-Ok-None.field-0-is at c.in-Ok-None.ensures) refl)

pub unreachable-requires-in-Err : goal.unreachable-requires-in-Err
unreachable-requires-in-Err c = omega (arith, some_left (goal.at.unreachable-requires-in-Err c).After-next_piece, no-piece _ _ _ c.in-Err.ensures refl)

pub loop-at-preserved : goal.loop-at-preserved
loop-at-preserved c =
    let i = c.loop-at.invariant in
    (i.0, i.1, rw (none-next _ _ _ (next (goal.at.loop-at-preserved c).In-Ok-Some) c.if-q-eq0.false) at i.2)

pub fill_leaf-requires : goal.fill_leaf-requires
fill_leaf-requires c =
    (held-leaf (follows _ _ c.requires.0.width _ (next (goal.at.fill_leaf-requires c).In-Ok-Some)).0 c.if-q-eq0.true, lent c.loop-at.at 512 c.loop-at.slots (fits (goal.at.fill_leaf-requires c).In-Ok-Some))

pub loop-at-preserved-then-q-eq0 : goal.loop-at-preserved-then-q-eq0
loop-at-preserved-then-q-eq0 c =
    let l = c.loop-at in
    let room = fits (goal.at.loop-at-preserved-then-q-eq0 c).In-Ok-Some in
    let kept = c.fill_leaf.auto.slots in
    let same = same_len_mid l.at (l.at + 512 - l.at) l.slots c.fill_leaf.new.slots kept in
    let many = kept ∙ lent l.at 512 l.slots room in (
      omega (arith, same, room),
      omega (arith, same, room, l.invariant.1),
      filled l.invariant.2 [] _ _ (leaf-next _ _ _ (next (goal.at.loop-at-preserved-then-q-eq0 c).In-Ok-Some) c.if-q-eq0.true) refl _ (omega (arith, same, room, l.invariant.1))
          (put-behind l.at 512 l.slots _ _ l.invariant.0 many ∙ ap (λ (v : List ℕ). take l.at l.slots ++ v) c.fill_leaf.ensures),
    )

pub returns : goal.returns
returns c =
    let l = c.loop-at in
    let a = c.args in
    sym (take_all l.at l.slots c.loop-at-test.false) ∙ full l.invariant.2 (omega (arith, c.loop-at-test.false))
    ∙ ap (λ (leaves : List Piece). values_of a.s.now a.start.coding leaves 0 (length a.slots.now / 512)) c.behind_leaves-cursor.ensures
