-- Each way out is one law: not all was whole, all slots are filled, no piece comes, or the next one is entered.
use mathlib.Core.Path.{◌≡◌, ◌∙◌}
use borrow.Author.Tests.{not-true, not-false}
use Rattle.std.proofs.Common.{Option, Ok}
use Rattle.fields.proofs.Laws.{told}
use Rattle.cursor.specs.declared.Cursor.{Cursor}
use Rattle.cursor.specs.declared.Piece.{Piece}
use Rattle.place.specs.Inner.{says_listed, listing_from}
use Rattle.place.proofs.Laws.{not-whole, all-filled, none-to-come, stands-next}
use Rattle.place.proofs.next_stand.Goals.{In-Ok, then-not-t-via-then-not-t, then-not-t-via-else-not-t+then-limit-t}
use Rattle.place.proofs.next_stand.Goals as goal

pub returns-then-not-t : goal.returns-then-not-t
returns-then-not-t c = elim c.then-not-t.branch [
  | then-not-t-via-then-not-t w ↦ not-whole _ _ _ (not-true _ w.if-not-t.true)
  | then-not-t-via-else-not-t+then-limit-t w ↦ all-filled _ _ _ _ w.if-limit-t.true
]

-- what the search for the next piece found
found : (c : In-Ok) {v : Option (Piece × Cursor)} → c.in-Ok.next ≡ v → says_listed c.args.s.now c.args.c (Ok v) ≡ listing_from c.args.s.now c.args.c c.args.cursor
found c e = told (λ (o : Option (Piece × Cursor)). says_listed c.args.s.now c.args.c (Ok o)) e c.in-Ok.ensures

pub returns-in_default : goal.returns-in_default
returns-in_default c = none-to-come _ _ _ _ c.in_default.ensures

pub returns-in_err-q : goal.returns-in_err-q
returns-in_err-q c = c.from_residual.ensures ∙ none-to-come _ _ _ _ (found (goal.at.returns-in_err-q c).In-Ok c.in_err-q.was)

pub returns : goal.returns
returns c = stands-next _ _ (not-false _ c.if-not-t.false) c.if-limit-t.false (found (goal.at.returns c).In-Ok c.in_ok-q.was) c.enter.ensures
