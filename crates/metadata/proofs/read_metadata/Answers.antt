use native.Mathlib.Omega.{arith}
use mathlib.Core.Path.{◌∙◌}
use Rattle.fields.proofs.Steps.{read, handed-on}
use Rattle.metadata.proofs.Laws.{left-more, left-fails, left-none, count-whole}
use Rattle.metadata.specs.Metadata.{lookup, metadata}
use Rattle.metadata.proofs.read_metadata.Goals as goal

pub returns-in_err-n : goal.returns-in_err-n
unfolding lookup metadata
returns-in_err-n c = handed-on _ _ c.from_residual.ensures.1 (search (read, c.in_err-n.ensures))

pub loop-init : goal.loop-init
loop-init c = count-whole _ _ _ _ _ c.in_ok-n.ensures

pub returns-in_err-e : goal.returns-in_err-e
returns-in_err-e c = handed-on _ _ c.from_residual-in_err-e.ensures.1 (left-fails _ _ _ _ _ _ _ (omega arith) c.in_err-e.ensures ∙ c.loop.invariant)

pub loop-preserved : goal.loop-preserved
loop-preserved c = left-more _ _ _ _ _ _ _ _ _ (omega arith) c.in_ok-e.ensures c.newer-found.ensures ∙ c.loop.invariant

pub returns : goal.returns
returns c = left-none _ _ _ _ _ _ (omega arith) ∙ c.loop.invariant
