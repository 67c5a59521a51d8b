-- The three numbers are read, and then check 17 says that the origin is aligned and new.
use Rattle.fields.proofs.Steps.{read, handed-on}
use Rattle.roots.specs.Roots.{origin_field}
use Rattle.roots.proofs.Laws.{new-origin, old-origin}
use Rattle.roots.proofs.read_origin.Goals as goal

pub returns-in_err-v : goal.returns-in_err-v
unfolding origin_field
returns-in_err-v c = handed-on _ _ c.from_residual.ensures.1 (search (read, c.in_err-v.ensures))

pub returns-then-not-is_new_origin : goal.returns-then-not-is_new_origin
unfolding origin_field
returns-then-not-is_new_origin c = search (read, c.in_ok-v.ensures, old-origin)

pub returns : goal.returns
unfolding origin_field
returns c = search (read, c.in_ok-v.ensures, new-origin)
