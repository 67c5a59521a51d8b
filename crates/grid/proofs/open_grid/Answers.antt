-- A walk starts from what is found of the grid.
use Rattle.fields.proofs.Steps.{handed-on-answer}
use Rattle.grid.proofs.Laws.{open-refuses, open_gives}
use Rattle.grid.proofs.open_grid.Goals as goal

pub returns-in_err-content : goal.returns-in_err-content
returns-in_err-content c = handed-on-answer _ _ c.from_residual.ensures.1 (open-refuses _ _ _ _ c.in_err-content.ensures)

pub returns : goal.returns
returns c = rw c.fresh.ensures (open_gives _ _ _ _ c.in_ok-content.ensures)
