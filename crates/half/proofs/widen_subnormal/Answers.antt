-- A fraction of 0 is the sign alone; any other is worked out from the position of its highest one.
use mathlib.Core.Path.{◌≡◌, ap, ◌∙◌}
use Prim.Native.Nat.{◌-◌, ◌≤◌}
use native.Mathlib.Omega.{arith}
use lib.Count.{count_leading_zeros}
use Rattle.half.specs.Half.{fraction, widened}
use Rattle.half.proofs.Laws.{worked_out, worked-out, widened-subnormal, widened-zero}
use Rattle.half.proofs.widen_subnormal.Goals as goal
use Rattle.half.proofs.widen_subnormal.Goals.{Else-t-eq0}

worked : (c : Else-t-eq0) → let t = fraction c.from-p.result in let z = count_leading_zeros 32 t in (22 ≤ z) × (z ≤ 31) × (worked_out (31 - z) t ≡ widened t)
worked c = worked-out _ (omega (arith, c.if-t-eq0.false)) (omega arith)

pub returns-then-t-eq0 : goal.returns-then-t-eq0
returns-then-t-eq0 c = widened-zero _ (omega arith) (rw c.from-p.ensures c.requires) c.if-t-eq0.true ∙ ap widened c.from-p.ensures

pub overflow_sub-j : goal.overflow_sub-j
overflow_sub-j c = omega (arith, (worked (goal.at.overflow_sub-j c).Else-t-eq0).1)

pub overflow_sub-result : goal.overflow_sub-result
overflow_sub-result c = omega (arith, (worked (goal.at.overflow_sub-result c).Else-t-eq0).0)

pub overflow_add-result-3 : goal.overflow_add-result-3
overflow_add-result-3 c = omega (arith, (worked (goal.at.overflow_add-result-3 c).Else-t-eq0).0)

pub returns : goal.returns
returns c = omega (arith, (worked (goal.at.returns c).Else-t-eq0).2, widened-subnormal c.from-p.result (omega arith) (rw c.from-p.ensures c.requires), ap widened c.from-p.ensures)
