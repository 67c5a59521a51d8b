-- Words of another layout are refused, and from any others the walk's own answer is laid into what was lent.
use mathlib.Core.Path.{sym, ◌∙◌}
use Rattle.grid_calls.proofs.Laws.{walk-foreign, walk_refused, walk-gave}
use Rattle.grid_calls.proofs.walk.Goals as goal

pub returns-then-not-has_layout : goal.returns-then-not-has_layout
returns-then-not-has_layout c = walk-foreign _ _ (sym c.has_layout.ensures ∙ c.if-not-has_layout.true) c.from.ensures

pub returns-in-Ok : goal.returns-in-Ok
returns-in-Ok c =
    walk-gave _ _ (sym c.has_layout.ensures ∙ c.if-not-has_layout.false) c.place_of.ensures c.walk.ensures c.in-Ok.is c.words_of.ensures

pub returns-in-Err : goal.returns-in-Err
returns-in-Err c =
    walk_refused _ _ (sym c.has_layout.ensures ∙ c.if-not-has_layout.false) c.place_of.ensures c.walk.ensures c.in-Err.is c.from-in-Err.ensures
