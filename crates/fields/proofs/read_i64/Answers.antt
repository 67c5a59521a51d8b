-- The bytes are there, or they run past the end.
use mathlib.Core.Path.{ap, ◌∙◌}
use mir.Syntax.{w64}
use Rattle.fields.specs.Le.{signed}
use Rattle.fields.proofs.Laws.{kept}
use Rattle.fields.proofs.Steps.{whole-past, whole-there}
use Rattle.fields.proofs.read_i64.Goals as goal

pub returns-in_err-next : goal.returns-in_err-next
returns-in_err-next c = whole-past _ _ _ _ _ _ c.from_residual.ensures.1 c.in_err-next.ensures

pub returns : goal.returns
returns c = whole-there _ _ _ _ _ _ c.in_ok-next.ensures (kept w64 _ c.i64_of.type_inv ∙ c.i64_of.ensures ∙ ap (signed 63) c.u64_at.ensures)
