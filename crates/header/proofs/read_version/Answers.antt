-- The number is read, and then the tests are the two ends of check 4's range.
use Rattle.fields.proofs.Steps.{read, steps, handed-on}
use Rattle.fields.proofs.Laws.{then-got}
use Rattle.header.proofs.Laws.{check-out, check-in}
use Rattle.header.specs.Header.{version_field}
use Rattle.header.proofs.read_version.Goals as goal

pub returns-in_err-v : goal.returns-in_err-v
unfolding version_field
returns-in_err-v c = handed-on _ _ c.from_residual.ensures.1 (search (read, c.in_err-v.ensures))

pub returns-then-v-lt220 : goal.returns-then-v-lt220
unfolding version_field
returns-then-v-lt220 c = then-got _ c.in_ok-v.ensures (check-out _ _ _ _ c.then-v-lt220.either)

pub returns : goal.returns
unfolding version_field
returns c = search (steps, check-in, c.in_ok-v.ensures)
