-- The value is whole, or it runs past the end.
use native.Mathlib.Omega.{arith}
use Rattle.fields.proofs.Laws.{field-whole, field_past}
use Rattle.forms.proofs.read_value.Goals as goal

pub returns-then-remaining-width : goal.returns-then-remaining-width
returns-then-remaining-width c = field_past _ _ _ _ (omega arith)

pub returns : goal.returns
returns c = field-whole _ _ _ _ _ (omega arith) c.value_at.ensures
