-- Eight bytes are read, and then check 3 compares them.
use Rattle.fields.proofs.Steps.{read, steps, handed-on-end}
use Rattle.header.specs.Header.{magic_field}
use Rattle.header.proofs.read_magic.Goals as goal

pub returns-in_err-m : goal.returns-in_err-m
unfolding magic_field
returns-in_err-m c = handed-on-end _ _ c.from_residual.ensures.1 (search (read, c.in_err-m.ensures))

pub returns-then-not-has_bytes : goal.returns-then-not-has_bytes
unfolding magic_field
returns-then-not-has_bytes c = search (steps, c.in_ok-m.ensures)

pub returns : goal.returns
unfolding magic_field
returns c = search (steps, c.in_ok-m.ensures)
