-- Each value lies in the file; each step and the end are laws of `Filling`.
use native.Mathlib.Omega.{arith}
use Rattle.batch.proofs.Laws.{filling-none, filling-next, filling-all, one-in-file}
use Rattle.batch.proofs.fill_stored.Goals as goal

pub loop-k-init : goal.loop-k-init
loop-k-init c = filling-none _ _ _

pub stored_value-requires : goal.stored_value-requires
stored_value-requires c = let p = c.requires in (p.0.width, one-in-file _ p.0 (omega arith))

pub loop-k-preserved : goal.loop-k-preserved
loop-k-preserved c = filling-next _ _ _ _ _ c.loop-k.invariant (omega arith) c.stored_value.ensures

pub returns : goal.returns
returns c = filling-all _ _ _ _ _ c.loop-k.invariant (omega arith)
