-- The descriptor is read, and then check 10 looks for its name among the earlier ones.
use Rattle.fields.proofs.Laws.{then-got}
use Rattle.fields.proofs.Steps.{read, handed-on}
use mathlib.Core.Path.{refl}
use Rattle.archive.proofs.Laws.{check-repeated, check-new}
use Rattle.archive.proofs.read_next.Goals as goal

pub returns-in_err-d : goal.returns-in_err-d
returns-in_err-d c = handed-on _ _ c.from_residual.ensures.1 (search (read, c.in_err-d.ensures))

pub returns-then-is_repeated : goal.returns-then-is_repeated
returns-then-is_repeated c = then-got _ c.in_ok-d.ensures (check-repeated _ _ _ _ c.is_repeated.ensures c.if-is_repeated.true c.bytes_of.ensures)

pub returns : goal.returns
returns c = then-got _ c.in_ok-d.ensures (check-new _ _ _ c.is_repeated.ensures c.if-is_repeated.false c.bytes_of.ensures refl)
