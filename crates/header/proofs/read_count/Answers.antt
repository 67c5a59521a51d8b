-- The number is read, and then check 8 says that it is at most 64.
use native.Mathlib.Omega.{arith}
use Rattle.fields.proofs.Steps.{read, steps, handed-on}
use Rattle.header.specs.Header.{count_field}
use Rattle.header.proofs.read_count.Goals as goal

pub returns-in_err-n : goal.returns-in_err-n
unfolding count_field
returns-in_err-n c = handed-on _ _ c.from_residual.ensures.1 (search (read, c.in_err-n.ensures))

pub returns-then-n-gt64 : goal.returns-then-n-gt64
unfolding count_field
returns-then-n-gt64 c = search (steps, arith, c.in_ok-n.ensures)

pub returns : goal.returns
unfolding count_field
returns c = search (steps, c.in_ok-n.ensures)
