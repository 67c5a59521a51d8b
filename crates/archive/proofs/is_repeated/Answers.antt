-- A name is at this place, or among those behind it, or nowhere once none is left.
use mathlib.Core.Path.{◌∙◌}
use native.Mathlib.Omega.{arith}
use Rattle.archive.proofs.Laws.{repeated-here, repeated-later, repeated-end}
use Rattle.archive.proofs.is_repeated.Goals as goal

pub returns-then-same_name : goal.returns-then-same_name
returns-then-same_name c =
    repeated-here _ _ c.args.names.now c.loop-w.w-index _ (omega arith) c.same_name.ensures c.bytes_of.ensures c.if-same_name.true ∙ c.loop-w.invariant

pub loop-w-preserved : goal.loop-w-preserved
loop-w-preserved c =
    repeated-later _ _ c.args.names.now c.loop-w.w-index _ (omega arith) c.same_name.ensures c.bytes_of.ensures c.if-same_name.false ∙ c.loop-w.invariant

pub returns : goal.returns
returns c = repeated-end _ _ c.args.names.now c.loop-w.w-index (omega arith) ∙ c.loop-w.invariant
