-- Each way out is the fields and checks up to it, as the calls found them: the mask, check 20, what stands there under 222.
use mathlib.Core.Path.{refl}
use lib.Dec.{lit≤}
use Rattle.fields.proofs.Laws.{then-got}
use Rattle.fields.proofs.Steps.{steps, handed-on-end, check-yes, check-no}
use Rattle.nodes.specs.Inner.{block_head}
use Rattle.nodes.proofs.Laws.{whole-mask}
use Rattle.nodes.proofs.read_block_head.Goals as goal

pub returns-in_err-block_mask : goal.returns-in_err-block_mask
unfolding block_head
returns-in_err-block_mask c = handed-on-end _ _ c.from_residual.ensures.1 (search (steps, c.in_err-block_mask.ensures))

pub masks_equal-requires : goal.masks_equal-requires
masks_equal-requires c = let block = whole-mask _ _ 64 refl (lit≤ tt) c.in_ok-block_mask.ensures in
    (search, search)

pub returns-then-not-masks_equal : goal.returns-then-not-masks_equal
unfolding block_head
returns-then-not-masks_equal c = then-got _ c.in_ok-block_mask.ensures (check-no _ c.masks_equal.ensures c.if-not-masks_equal.true)

pub returns : goal.returns
unfolding block_head
returns c = then-got _ c.in_ok-block_mask.ensures (check-yes _ c.masks_equal.ensures c.if-not-masks_equal.false c.read_old.ensures)
