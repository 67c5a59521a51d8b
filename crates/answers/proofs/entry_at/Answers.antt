-- Metadata that runs past the end is check 2, and an entry that is not found is check 11, as in the definition.
use mathlib.Core.Path.{refl, ap, ◌∙◌}
use Rattle.fields.specs.Says.{says_answer}
use Rattle.fields.proofs.Steps.{handed-on-answer}
use Rattle.fields.proofs.Answers.{with-gives, with-refuses, answer-got, answer-fails}
use Rattle.archive.proofs.Laws.{present-answer}
use Rattle.archive.specs.Archive.{entry_at}
use Rattle.answers.proofs.entry_at.Goals as goal

pub returns-in_err-found : goal.returns-in_err-found
unfolding entry_at
returns-in_err-found c = handed-on-answer _ _ c.from_residual.ensures.1 (with-refuses _ (answer-fails c.in_err-found.ensures))

pub returns-in_err-e : goal.returns-in_err-e
unfolding entry_at
returns-in_err-e c =
    handed-on-answer _ _ c.from_residual-in_err-e.ensures.1
    (with-gives _ (answer-got c.in_ok-found.ensures) (with-refuses _ (ap says_answer c.in_err-e.ensures.value ∙ present-answer _)))

pub returns : goal.returns
unfolding entry_at
returns c = with-gives _ (answer-got c.in_ok-found.ensures) (with-gives _ (ap says_answer c.in_ok-e.ensures.value ∙ present-answer _) refl)
