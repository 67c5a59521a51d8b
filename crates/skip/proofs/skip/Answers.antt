-- One piece more: there is none, it is refused, it is passed, or it does not fit.
use mathlib.Core.Path.{◌≡◌, ◌∙◌}
use native.Mathlib.Nat.{lt_of_le_of_lt}
use Rattle.std.proofs.Common.{Option, Ok}
use Rattle.fields.proofs.Laws.{told}
use Rattle.cursor.specs.Inner.{says_piece, piece_of, stop, to_come}
use Rattle.cursor.specs.declared.Cursor.{Cursor}
use Rattle.cursor.specs.declared.Piece.{Piece}
use Rattle.skip.proofs.Steps.{leaf-is, at-end, at-refusal, held-there, piece-passed, records-missing, leaf-missing}
use Rattle.skip.proofs.skip.Goals.{In-Some, then-t-leaf-via-then-t-leaf, then-t-leaf-via-else-t-leaf+then-t-count}
use Rattle.skip.proofs.skip.Goals as goal

-- the piece that is there
there : (c : In-Some) → let y = c.in-Some.behind in stop (piece_of c.in-Some.piece) y (to_come c.args.s.now c.args.c y) ≡ to_come c.args.s.now c.args.c c.loop-next.t.cursor
there c = told (λ (o : Option (Piece × Cursor)). says_piece c.args.s.now c.args.c (Ok o)) c.in-Some.is c.in-Ok.ensures

pub returns-in-Err : goal.returns-in-Err
returns-in-Err c = at-refusal _ _ c.loop-next.t c.in-Err.ensures ∙ c.loop-next.invariant

pub returns-in_default : goal.returns-in_default
returns-in_default c =
    at-end _ _ c.loop-next.t (told (λ (o : Option (Piece × Cursor)). says_piece c.args.s.now c.args.c (Ok o)) c.in_default.is c.in-Ok.ensures)
    ∙ c.loop-next.invariant

pub count_records-requires : goal.count_records-requires
count_records-requires c = (held-there _ _ c.loop-next.t (there (goal.at.count_records-requires c).In-Some) c.requires).held.value-mask

pub returns-then-t-leaf : goal.returns-then-t-leaf
returns-then-t-leaf c =
    let e = there (goal.at.returns-then-t-leaf c).In-Some in
    elim c.then-t-leaf.branch [
      | then-t-leaf-via-then-t-leaf w ↦ leaf-missing _ _ c.loop-next.t e (c.from-leaf.ensures ∙ leaf-is _) w.if-t-leaf.true ∙ c.loop-next.invariant
      | then-t-leaf-via-else-t-leaf+then-t-count w ↦ records-missing _ _ c.loop-next.t e (c.from-count.ensures ∙ c.count_records.ensures) w.if-t-count.true ∙ c.loop-next.invariant
    ]

pub loop-next-smaller : goal.loop-next-smaller
loop-next-smaller c =
    let e = there (goal.at.loop-next-smaller c).In-Some in
    lt_of_le_of_lt c.run_on-t.ensures.no_more
    (piece-passed _ _ c.loop-next.t e (c.from-count.ensures ∙ c.count_records.ensures) (c.from-leaf.ensures ∙ leaf-is _) c.if-t-count.false c.if-t-leaf.false).1

pub loop-next-preserved : goal.loop-next-preserved
loop-next-preserved c =
    let e = there (goal.at.loop-next-preserved c).In-Some in
    c.run_on-t.ensures.same
    ∙ (piece-passed _ _ c.loop-next.t e (c.from-count.ensures ∙ c.count_records.ensures) (c.from-leaf.ensures ∙ leaf-is _) c.if-t-count.false c.if-t-leaf.false).0
    ∙ c.loop-next.invariant
