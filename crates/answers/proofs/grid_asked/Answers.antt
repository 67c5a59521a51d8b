-- The whole file is opened first; a grid that is not found is check 11.
use mathlib.Core.Path.{ap, ◌∙◌}
use Rattle.fields.specs.Says.{says_answer}
use Rattle.fields.proofs.Steps.{handed-on-answer}
use Rattle.fields.proofs.Answers.{with-gives, with-refuses}
use Rattle.archive.proofs.Laws.{present-answer}
use Rattle.archive.specs.Archive.{grid_asked}
use Rattle.answers.proofs.grid_asked.Goals as goal

pub returns-in_err-file : goal.returns-in_err-file
unfolding grid_asked
returns-in_err-file c = handed-on-answer _ _ c.from_residual.ensures.1 (with-refuses _ c.in_err-file.ensures)

pub returns : goal.returns
unfolding grid_asked
returns c = with-gives _ c.in_ok-file.ensures (ap says_answer c.ok_or.ensures.value ∙ present-answer _)
