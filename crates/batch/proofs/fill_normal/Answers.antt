-- A half lies in the file and is normal since all 64 are; each step and the end are laws of `Filling`.
use mathlib.Core.Path.{ap, ◌∙◌}
use native.Mathlib.Omega.{arith}
use Rattle.half.specs.Half.{widened}
use Rattle.half.specs.Inner.{is_normal}
use Rattle.half.proofs.Laws.{normal-at}
use Rattle.batch.proofs.Laws.{filling-none, filling-next, filling-all}
use Rattle.batch.proofs.fill_normal.Goals as goal

pub loop-k-init : goal.loop-k-init
loop-k-init c = filling-none _ _ _

pub widen_normal-requires : goal.widen_normal-requires
widen_normal-requires c = ap is_normal c.u16_at.ensures ∙ normal-at _ _ 64 _ c.requires.1 (omega arith)

pub loop-k-preserved : goal.loop-k-preserved
loop-k-preserved c = filling-next _ _ _ _ _ c.loop-k.invariant (omega arith) (c.widen_normal.ensures ∙ ap widened c.u16_at.ensures)

pub returns : goal.returns
returns c = filling-all _ _ _ _ _ c.loop-k.invariant (omega arith)
