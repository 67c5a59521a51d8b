-- The bytes are there, or they run past the end.
use mathlib.Core.Path.{ap, ◌∙◌}
use mir.Syntax.{w32}
use Rattle.fields.specs.Le.{signed}
use Rattle.fields.proofs.Laws.{kept}
use Rattle.fields.proofs.Steps.{whole-past, whole-there}
use Rattle.fields.proofs.read_i_vec3.Goals as goal

pub returns-in_err-next : goal.returns-in_err-next
returns-in_err-next c = whole-past _ _ _ _ _ _ c.from_residual.ensures.1 c.in_err-next.ensures

pub returns : goal.returns
returns c = whole-there _ _ _ _ _ _ c.in_ok-next.ensures (λ i. record {
  x = (kept w32 _ c.i32_of.type_inv ∙ c.i32_of.ensures ∙ ap (signed 31) c.u32_at.ensures) i;
  y = (kept w32 _ c.i32_of-2.type_inv ∙ c.i32_of-2.ensures ∙ ap (signed 31) c.u32_at-2.ensures) i;
  z = (kept w32 _ c.i32_of-3.type_inv ∙ c.i32_of-3.ensures ∙ ap (signed 31) c.u32_at-3.ensures) i;
})
