-- Each way out is one law: an infinity, a NaN without its quiet bit and one with it.
use mathlib.Core.Path.{ap, ◌∙◌}
use borrow.Author.Tests.{lt-ltb, le-ltb}
use native.Mathlib.Omega.{arith}
use Rattle.half.specs.Half.{widened}
use Rattle.half.proofs.Laws.{widened-infinity, widened-nan}
use Rattle.half.proofs.widen_special.Goals as goal

pub returns-then-t-eq0 : goal.returns-then-t-eq0
returns-then-t-eq0 c = widened-infinity c.from-p.result (omega arith) (rw c.from-p.ensures c.requires) c.if-t-eq0.true ∙ ap widened c.from-p.ensures

pub returns-then-t-lt512 : goal.returns-then-t-lt512
returns-then-t-lt512 c = widened-nan c.from-p.result _ (rw c.from-p.ensures c.requires) c.if-t-eq0.false (simp (lt-ltb _ _ c.if-t-lt512.true)) ∙ ap widened c.from-p.ensures

pub returns : goal.returns
returns c = widened-nan c.from-p.result _ (rw c.from-p.ensures c.requires) c.if-t-eq0.false (simp (le-ltb _ _ c.if-t-lt512.false)) ∙ ap widened c.from-p.ensures
