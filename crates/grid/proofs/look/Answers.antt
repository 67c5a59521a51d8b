-- The file is opened, then the grid that was found.
use mathlib.Core.Path.{◌∙◌}
use Rattle.fields.proofs.Steps.{handed-on-answer}
use Rattle.grid.proofs.Laws.{file-refused, grid-absent, grid-found}
use Rattle.grid.proofs.look.Goals as goal

pub returns-in_err-file : goal.returns-in_err-file
returns-in_err-file c = handed-on-answer _ _ c.from_residual.ensures.1 (file-refused _ _ _ _ c.in_err-file.ensures)

pub returns-in_default : goal.returns-in_default
returns-in_default c = grid-absent _ _ _ _ c.in_ok-file.ensures c.in_default.is

pub returns : goal.returns
returns c = c.read_grid.ensures ∙ grid-found _ _ _ _ c.in_ok-file.ensures _ c.in-Some.is
