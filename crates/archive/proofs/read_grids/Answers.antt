-- One more descriptor is read, it is refused, or none is left.
use borrow.Author.Rules.{rules}
use native.Mathlib.Omega.{arith}
use mathlib.Core.Path.{◌∙◌}
use Rattle.fields.proofs.Steps.{handed-on}
use Rattle.archive.proofs.Laws.{grids-more, grids-fails, grids-none, grids-all}
use Rattle.archive.proofs.read_grids.Goals as goal

pub loop-i-init : goal.loop-i-init
loop-i-init c = record { long = search rules; rest = grids-all _ _ _ _ _ _ }

pub returns-in_err-d : goal.returns-in_err-d
returns-in_err-d c = handed-on _ _ c.from_residual.ensures.1 (grids-fails _ _ _ _ _ _ _ _ _ _ (omega arith) c.in_err-d.ensures ∙ c.loop-i.invariant.rest)

pub loop-i-preserved : goal.loop-i-preserved
loop-i-preserved c = record {
  long = search rules;
  rest = grids-more _ _ _ _ _ _ _ _ _ _ _ _ (omega arith) (omega arith) c.loop-i.invariant.long c.in_ok-d.ensures c.newer-found.ensures ∙ c.loop-i.invariant.rest;
}

pub returns : goal.returns
returns c = grids-none _ _ _ _ _ _ _ _ _ (omega arith) ∙ c.loop-i.invariant.rest
