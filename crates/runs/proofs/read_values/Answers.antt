-- Each way out is the fields up to it, as the calls found them: what stands before the run, and the run.
use Rattle.fields.proofs.Steps.{read, handed-on}
use Rattle.runs.specs.Runs.{values_field}
use Rattle.runs.proofs.read_values.Goals as goal

pub returns-in_err-head : goal.returns-in_err-head
unfolding values_field
returns-in_err-head c = handed-on _ _ c.from_residual.ensures.1 (search (read, c.in_err-head.ensures))

pub returns-in_err-run : goal.returns-in_err-run
unfolding values_field
returns-in_err-run c = handed-on _ _ c.from_residual-in_err-run.ensures.1 (search (read, c.in_ok-head.ensures, c.in_err-run.ensures))

pub returns : goal.returns
unfolding values_field
returns c = search (read, c.in_ok-head.ensures, c.in_ok-run.ensures)
