-- Opening a file is opening it with no grid asked for, of which only the header is kept.
use mathlib.Core.Path.{refl}
use Rattle.fields.proofs.Steps.{handed-on-answer}
use Rattle.fields.proofs.Answers.{with-gives, with-refuses}
use Rattle.archive.proofs.Laws.{open_by}
use Rattle.answers.proofs.open_file.Goals as goal

pub returns-in_err-file : goal.returns-in_err-file
returns-in_err-file c = handed-on-answer _ _ c.from_residual.ensures.1 (open_by _ (with-refuses _ c.in_err-file.ensures))

pub returns : goal.returns
returns c = open_by _ (with-gives _ c.in_ok-file.ensures refl)
