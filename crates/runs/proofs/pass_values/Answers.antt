-- The same of which only the end is kept.
use Rattle.fields.proofs.Steps.{read, handed-on-end, via}
use Rattle.runs.proofs.Laws.{values-end}
use Rattle.runs.proofs.pass_values.Goals as goal

pub returns-in_err-head : goal.returns-in_err-head
returns-in_err-head c = via (values-end _ _ _ _ _ _ _) (handed-on-end _ _ c.from_residual.ensures.1 (search (read, c.in_err-head.ensures)))

pub returns-in_err-e : goal.returns-in_err-e
returns-in_err-e c = via (values-end _ _ _ _ _ _ _) (handed-on-end _ _ c.from_residual-in_err-e.ensures.1 (search (read, c.in_ok-head.ensures, c.in_err-e.ensures)))

pub returns : goal.returns
returns c = via (values-end _ _ _ _ _ _ _) (search (read, c.in_ok-head.ensures, c.in_ok-e.ensures))
