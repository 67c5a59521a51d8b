-- The 4-nodes' masks end where the node does.
use mathlib.Core.Path.{refl, ◌∙◌}
use lib.Dec.{lit≤}
use Rattle.fields.proofs.Steps.{handed-on-end}
use Rattle.nodes.proofs.Laws.{node-back}
use Rattle.tree.specs.Topology.{node5_field}
use Rattle.tree.proofs.Passing.{end_refused, node5-passed}
use Rattle.tree.proofs.pass_node5.Goals as goal

pub returns-in_err-h : goal.returns-in_err-h
unfolding node5_field
returns-in_err-h c o = handed-on-end _ _ c.from_residual.ensures.1 (end_refused _ c.in_err-h.ensures)

pub pass_nodes-requires : goal.pass_nodes-requires
pass_nodes-requires c = (c.requires, (node-back 4096 _ _ _ refl (lit≤ tt) _ _ c.in_ok-h.ensures).child)

pub returns : goal.returns
returns c o = c.pass_nodes.ensures o ∙ node5-passed _ _ o _ c.in_ok-h.ensures
