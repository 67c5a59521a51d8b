-- The next piece lists a record, or the next one that does is behind it.
use mathlib.Core.Path.{◌≡◌, refl, sym, ◌∙◌}
use Rattle.std.proofs.Common.{Option, Ok}
use Rattle.fields.proofs.Laws.{told}
use Rattle.cursor.specs.Inner.{says_piece, piece_of, stop, to_come}
use Rattle.cursor.specs.declared.Cursor.{Cursor}
use Rattle.cursor.specs.declared.Piece.{Piece}
use Rattle.skip.proofs.Steps.{none-there}
use Rattle.place.proofs.Laws.{listed-refused}
use Rattle.place.proofs.Listing.{some-one, mask-there, listed-none, listed_here, listed-later}
use Rattle.place.proofs.next_listed.Goals.{In-Some}
use Rattle.place.proofs.next_listed.Goals as goal

-- the piece that is there
there : (c : goal.In-Some) → stop (piece_of c.in-Some.q) c.in-Some.behind (to_come c.args.s.now c.args.c c.in-Some.behind) ≡ to_come c.args.s.now c.args.c c.args.cursor
there c = told (λ (o : Option (Piece × Cursor)). says_piece c.args.s.now c.args.c (Ok o)) c.in-Some.is c.in_ok-q.ensures

pub returns-in_err-q : goal.returns-in_err-q
returns-in_err-q c = listed-refused _ _ _ _ c.from_residual.ensures.1 (listed-none _ _ c.requires _ refl c.in_err-q.ensures)

pub returns-in_default : goal.returns-in_default
returns-in_default c =
    listed-none _ _ c.requires _ refl (told (λ (o : Option (Piece × Cursor)). says_piece c.args.s.now c.args.c (Ok o)) c.in_default.is c.in_ok-q.ensures)

pub next_one-requires : goal.next_one-requires
next_one-requires c = mask-there _ _ c.requires _ (there (goal.at.next_one-requires c).In-Some) c.mask_bytes-n.ensures.0

pub returns-then-is_some : goal.returns-then-is_some
returns-then-is_some c =
    let p = some-one _ (sym c.if-is_some.ensures) in
    listed_here _ _ c.requires _ (there (goal.at.returns-then-is_some c).In-Some) c.mask_bytes-n.ensures.0 (p.1 ∙ c.next_one.ensures)

pub returns : goal.returns
returns c =
    let there = there (goal.at.returns c).In-Some in
    c.pass_empty.ensures ∙ listed-later _ _ c.requires _ there c.mask_bytes-n.ensures.0 (none-there _ (sym c.if-is_some.ensures) ∙ c.next_one.ensures)
