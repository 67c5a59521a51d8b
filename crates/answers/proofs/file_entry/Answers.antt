-- The file is opened first; its metadata is searched from where its header says.
use Rattle.fields.proofs.Steps.{handed-on-answer}
use Rattle.fields.proofs.Answers.{with-gives, with-refuses}
use Rattle.archive.specs.Archive.{file_entry}
use Rattle.answers.proofs.file_entry.Goals as goal

pub returns-in_err-h : goal.returns-in_err-h
unfolding file_entry
returns-in_err-h c = handed-on-answer _ _ c.from_residual.ensures.1 (with-refuses _ c.in_err-h.ensures)

pub returns : goal.returns
unfolding file_entry
returns c = with-gives _ c.in_ok-h.ensures c.entry_at.ensures
