-- The leaves' masks end where 64 bytes for each one of the child mask do.
use mathlib.Core.Path.{refl, ◌∙◌}
use lib.Dec.{lit≤}
use Rattle.fields.proofs.Laws.{then-got, then-fails}
use Rattle.fields.proofs.Steps.{handed-on-end}
use Rattle.fields.specs.Inner.{end_of}
use Rattle.nodes.proofs.Laws.{node-back}
use Rattle.tree.specs.Topology.{node4_field}
use Rattle.tree.proofs.Passing.{end_refused, node4-passed}
use Rattle.tree.proofs.pass_node4.Goals as goal

pub returns-in_err-h : goal.returns-in_err-h
unfolding node4_field
returns-in_err-h c o = handed-on-end _ _ c.from_residual.ensures.1 (end_refused _ c.in_err-h.ensures)

pub count_ones-leaves-requires : goal.count_ones-leaves-requires
count_ones-leaves-requires c = (node-back 512 _ _ _ refl (lit≤ tt) _ _ c.in_ok-h.ensures).child

pub returns-in_err-q : goal.returns-in_err-q
unfolding end_of
returns-in_err-q c o =
    handed-on-end _ _ c.from_residual-in_err-q.ensures.1
    (then-fails _ c.in_err-q.ensures ∙ node4-passed _ _ o _ c.in_ok-h.ensures c.count_ones-leaves.ensures)

pub returns : goal.returns
unfolding end_of
returns c o = then-got _ c.in_ok-q.ensures refl ∙ node4-passed _ _ o _ c.in_ok-h.ensures c.count_ones-leaves.ensures
