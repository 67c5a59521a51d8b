-- The two widths.
use mathlib.Core.Path.{ap, ◌∙◌}
use native.Mathlib.Omega.{arith}
use Rattle.half.specs.Half.{widened}
use Rattle.half.proofs.Laws.{stored-half, stored-single}
use Rattle.half.proofs.value_at.Goals as goal

pub returns-then-width-eq2 : goal.returns-then-width-eq2
returns-then-width-eq2 c = c.widen.ensures ∙ ap widened c.u16_at.ensures ∙ stored-half _ _ _ (omega (arith, c.if-width-eq2.true))

pub returns : goal.returns
returns c = c.u32_at.ensures ∙ stored-single _ _ _ (λ e. omega (arith, c.if-width-eq2.false, e))
