-- The file's first eight bytes, the version, the library's two numbers, the offsets byte and the packed byte, one after the other.
use Rattle.fields.proofs.Steps.{read, handed-on}
use Rattle.header.specs.Header.{front_field}
use Rattle.header.proofs.read_front.Goals as goal

pub returns-in_err-o : goal.returns-in_err-o
unfolding front_field
returns-in_err-o c = handed-on _ _ c.from_residual.ensures.1 (search (read, c.in_err-o.ensures))

pub returns-in_err-version : goal.returns-in_err-version
unfolding front_field
returns-in_err-version c = handed-on _ _ c.from_residual-in_err-version.ensures.1 (search (read, c.in_ok-o.ensures, c.in_err-version.ensures))

pub returns-in_err-major : goal.returns-in_err-major
unfolding front_field
returns-in_err-major c = handed-on _ _ c.from_residual-in_err-major.ensures.1 (search (read, c.in_ok-o.ensures, c.in_ok-version.ensures, c.in_err-major.ensures) depth 9)

pub returns-in_err-minor : goal.returns-in_err-minor
unfolding front_field
returns-in_err-minor c = handed-on _ _ c.from_residual-in_err-minor.ensures.1 (search (read, c.in_ok-o.ensures, c.in_ok-version.ensures, c.in_ok-major.ensures, c.in_err-minor.ensures) depth 9)

pub returns-in_err-t : goal.returns-in_err-t
unfolding front_field
returns-in_err-t c = handed-on _ _ c.from_residual-in_err-t.ensures.1 (search (read, c.in_ok-o.ensures, c.in_ok-version.ensures, c.in_ok-major.ensures, c.in_ok-minor.ensures, c.in_err-t.ensures) depth 11)

pub returns-in_err-packed : goal.returns-in_err-packed
unfolding front_field
returns-in_err-packed c = handed-on _ _ c.from_residual-in_err-packed.ensures.1 (search (read, c.in_ok-o.ensures, c.in_ok-version.ensures, c.in_ok-major.ensures, c.in_ok-minor.ensures, c.in_ok-t.ensures, c.in_err-packed.ensures) depth 13)

pub returns : goal.returns
unfolding front_field
returns c = search (read, c.in_ok-o.ensures, c.in_ok-version.ensures, c.in_ok-major.ensures, c.in_ok-minor.ensures, c.in_ok-t.ensures, c.in_ok-packed.ensures) depth 13
