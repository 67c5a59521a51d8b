-- The header, then the descriptors. That a header which was read has at most 64 grids is what the second call needs.
use mathlib.Core.Path.{refl}
use Rattle.fields.proofs.Laws.{then-got, then-fails}
use Rattle.fields.proofs.Steps.{handed-on-answer}
use Rattle.header.proofs.Laws.{few-grids}
use Rattle.fields.proofs.Answers.{answer-got, answer-fails}
use Rattle.archive.proofs.Laws.{in_parts}
use Rattle.archive.proofs.read_file.Goals as goal

pub read_grids-requires : goal.read_grids-requires
read_grids-requires c = few-grids _ _ _ c.in_ok-header.ensures

pub returns-in_err-header : goal.returns-in_err-header
returns-in_err-header c = handed-on-answer _ _ c.from_residual.ensures.1 (in_parts _ _ _ (answer-fails (then-fails _ c.in_err-header.ensures)))

pub returns-in_err-grid : goal.returns-in_err-grid
returns-in_err-grid c =
    handed-on-answer _ _ c.from_residual-in_err-grid.ensures.1 (in_parts _ _ _ (answer-fails (then-got _ c.in_ok-header.ensures (then-fails _ c.in_err-grid.ensures))))

pub returns : goal.returns
returns c = in_parts _ _ _ (answer-got (then-got _ c.in_ok-header.ensures (then-got _ c.in_ok-grid.ensures refl)))
