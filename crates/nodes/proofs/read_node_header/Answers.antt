-- Each way out is the fields and checks up to it, as the calls found them: the two masks, check 18, the values.
use mathlib.Core.Bool.{not}
use mathlib.Core.Path.{refl, ap}
use Rattle.fields.proofs.Laws.{then-got, then-fails}
use Rattle.fields.proofs.Steps.{read, handed-on, check-yes, check-no}
use Rattle.nodes.specs.Nodes.{node_field}
use Rattle.nodes.proofs.Laws.{whole-mask}
use Rattle.nodes.proofs.read_node_header.Goals as goal

pub returns-in_err-child_mask : goal.returns-in_err-child_mask
unfolding node_field
returns-in_err-child_mask c = handed-on _ _ c.from_residual.ensures.1 (search (read, c.in_err-child_mask.ensures))

pub returns-in_err-value_mask : goal.returns-in_err-value_mask
unfolding node_field
returns-in_err-value_mask c = handed-on _ _ c.from_residual-in_err-value_mask.ensures.1 (search (read, c.in_ok-child_mask.ensures, c.in_err-value_mask.ensures))

pub masks_overlap-requires : goal.masks_overlap-requires
masks_overlap-requires c = (
  whole-mask _ _ _ c.requires.0 c.requires.1 c.in_ok-child_mask.ensures,
  whole-mask _ _ _ c.requires.0 c.requires.1 c.in_ok-value_mask.ensures,
)

pub returns-then-masks_overlap : goal.returns-then-masks_overlap
unfolding node_field
returns-then-masks_overlap c =
    then-got _ c.in_ok-child_mask.ensures
    (then-got _ c.in_ok-value_mask.ensures
    (check-no _ (ap not c.masks_overlap.ensures) (ap not c.if-masks_overlap.true)))

pub read_values-requires : goal.read_values-requires
read_values-requires c = (
  whole-mask _ _ _ c.requires.0 c.requires.1 c.in_ok-child_mask.ensures,
  whole-mask _ _ _ c.requires.0 c.requires.1 c.in_ok-value_mask.ensures,
  c.requires.2,
)

pub returns-in_err-values : goal.returns-in_err-values
unfolding node_field
returns-in_err-values c =
    handed-on _ _ c.from_residual-in_err-values.ensures.1
    (then-got _ c.in_ok-child_mask.ensures
    (then-got _ c.in_ok-value_mask.ensures
    (check-yes _ (ap not c.masks_overlap.ensures) (ap not c.if-masks_overlap.false)
    (then-fails _ c.in_err-values.ensures))))

pub returns : goal.returns
unfolding node_field
returns c =
    then-got _ c.in_ok-child_mask.ensures
    (then-got _ c.in_ok-value_mask.ensures
    (check-yes _ (ap not c.masks_overlap.ensures) (ap not c.if-masks_overlap.false)
    (then-got _ c.in_ok-values.ensures refl)))
