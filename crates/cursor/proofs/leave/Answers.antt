-- The node's header is refused, or it gives the piece, behind which comes what the cursor handed over says.
use mathlib.Core.Path.{refl}
use Rattle.cursor.specs.Inner.{leaving}
use Rattle.cursor.proofs.Laws.{handed-piece, after-got, after-fails}
use Rattle.cursor.proofs.leave.Goals as goal

pub returns-in_err-h : goal.returns-in_err-h
unfolding leaving
returns-in_err-h c = handed-piece _ _ _ _ c.from_residual.ensures.1 (after-fails _ c.in_err-h.ensures)

pub returns : goal.returns
unfolding leaving
returns c = after-got _ c.in_ok-h.ensures refl
