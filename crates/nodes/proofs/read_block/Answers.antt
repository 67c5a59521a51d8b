-- The block's two parts, as the calls found them.
use mathlib.Core.Path.{refl}
use Rattle.fields.proofs.Laws.{then-got, then-fails}
use Rattle.fields.proofs.Steps.{handed-on}
use Rattle.nodes.proofs.Laws.{block-parts, head-back}
use Rattle.nodes.proofs.read_block.Goals as goal

pub returns-in_err-p : goal.returns-in_err-p
returns-in_err-p c = handed-on _ _ c.from_residual.ensures.1 (rw (block-parts _ _ _ _) (then-fails _ c.in_err-p.ensures))

pub read_values-requires : goal.read_values-requires
read_values-requires c = let h = head-back _ _ _ _ _ _ c.in_ok-p.ensures in
    (h.0, h.0, c.requires.1)

pub returns-in_err-values : goal.returns-in_err-values
returns-in_err-values c =
    handed-on _ _ c.from_residual-in_err-values.ensures.1
    (rw (block-parts _ _ _ _) (then-got _ c.in_ok-p.ensures (then-fails _ c.in_err-values.ensures)))

pub returns : goal.returns
returns c = rw (block-parts _ _ _ _) (then-got _ c.in_ok-p.ensures (then-got _ c.in_ok-values.ensures refl))
