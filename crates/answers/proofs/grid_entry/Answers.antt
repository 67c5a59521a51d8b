-- The grid is found first; its metadata is searched from where its descriptor says.
use Rattle.fields.proofs.Steps.{handed-on-answer}
use Rattle.fields.proofs.Answers.{with-gives, with-refuses}
use Rattle.archive.specs.Archive.{grid_entry}
use Rattle.answers.proofs.grid_entry.Goals as goal

pub returns-in_err-d : goal.returns-in_err-d
unfolding grid_entry
returns-in_err-d c = handed-on-answer _ _ c.from_residual.ensures.1 (with-refuses _ c.in_err-d.ensures)

pub returns : goal.returns
unfolding grid_entry
returns c = with-gives _ c.in_ok-d.ensures c.entry_at.ensures
