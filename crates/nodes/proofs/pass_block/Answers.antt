-- The block's two parts, as the calls found them. The count given is the topology's mask's, and so the block's.
use mathlib.Core.Path.{sym, ◌∙◌}
use Rattle.fields.specs.Inner.{end_of}
use Rattle.fields.proofs.Laws.{then-fails}
use Rattle.fields.proofs.Steps.{handed-on-end}
use Rattle.nodes.proofs.Laws.{block-parts, block-end, head-back}
use Rattle.nodes.proofs.pass_block.Goals as goal

pub returns-in_err-p : goal.returns-in_err-p
unfolding end_of
returns-in_err-p c = handed-on-end _ _ c.from_residual.ensures.1 (rw (block-parts _ _ _ _) (then-fails _ (then-fails _ c.in_err-p.ensures)))

pub pass_values-requires : goal.pass_values-requires
unfolding end_of
pass_values-requires c = let h = head-back _ _ _ _ _ _ c.in_ok-p.ensures in
    let p = c.requires in (h.0, h.0, p.1, p.2 ∙ sym h.1)

pub returns : goal.returns
unfolding end_of
returns c = c.pass_values.ensures ∙ block-end _ _ _ _ c.in_ok-p.ensures
