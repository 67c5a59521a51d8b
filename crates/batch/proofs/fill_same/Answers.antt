-- Each step and the end are laws of `Filling`.
use mathlib.Core.Path.{refl}
use native.Mathlib.Omega.{arith}
use Rattle.batch.proofs.Laws.{filling-none, filling-next, filling-all}
use Rattle.batch.proofs.fill_same.Goals as goal

pub loop-k-init : goal.loop-k-init
loop-k-init c = filling-none _ _ _

pub loop-k-preserved : goal.loop-k-preserved
loop-k-preserved c = filling-next _ _ _ _ _ c.loop-k.invariant (omega arith) refl

pub returns : goal.returns
returns c = filling-all _ _ _ _ _ c.loop-k.invariant (omega arith)
