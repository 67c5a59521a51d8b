-- The bytes are there, or they run past the end.
use mathlib.Core.Path.{ap, ◌∙◌}
use lib.Ieee.{of_bits, binary64}
use Rattle.fields.proofs.Steps.{whole-past, whole-there}
use Rattle.fields.proofs.read_d_vec3.Goals as goal

pub returns-in_err-next : goal.returns-in_err-next
returns-in_err-next c = whole-past _ _ _ _ _ _ c.from_residual.ensures.1 c.in_err-next.ensures

pub returns : goal.returns
returns c = whole-there _ _ _ _ _ _ c.in_ok-next.ensures (λ i. record {
  x = (c.f64_of.ensures ∙ ap (of_bits binary64) c.u64_at.ensures) i;
  y = (c.f64_of-2.ensures ∙ ap (of_bits binary64) c.u64_at-2.ensures) i;
  z = (c.f64_of-3.ensures ∙ ap (of_bits binary64) c.u64_at-3.ensures) i;
})
