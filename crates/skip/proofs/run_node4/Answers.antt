-- The header that is read before the 4-node's leaves is the one that would be read behind them.
use borrow.Author.Rules.{rules}
use mathlib.Core.Path.{◌∙◌}
use native.Mathlib.Omega.{arith}
use Rattle.skip.proofs.Steps.{none-there}
use Rattle.skip.proofs.Leaves.{child-mask}
use Rattle.skip.proofs.Nodes.{multiple5, below5, value-mask4, node4-in, ran-inside, node-passed, goes_on}
use Rattle.skip.proofs.run_node4.Goals as goal

pub offset_to_global_coord-origin-requires : goal.offset_to_global_coord-origin-requires
offset_to_global_coord-origin-requires c = (search rules, below5 _ c.args.c _ c.requires.1 c.requires.2, multiple5 _ c.args.c _ c.requires.1)

pub overflow_add-node5 : goal.overflow_add-node5
overflow_add-node5 c = omega (arith, below5 _ c.args.c _ c.requires.1 c.requires.2)

pub run_leaves-r-requires : goal.run_leaves-r-requires
run_leaves-r-requires c =
    let o = c.offset_to_global_coord-origin.ensures in
    (c.requires.0, node4-in _ _ _ c.requires.1 c.requires.2 c.in-Ok.ensures o.0 o.1)

pub next_one-requires : goal.next_one-requires
next_one-requires c = child-mask c.run_leaves-r.ensures

pub count_ones-requires : goal.count_ones-requires
count_ones-requires c = value-mask4 _ _ _ c.requires.1 c.requires.2 c.in-Ok.ensures c.offset_to_global_coord-origin.ensures.0

pub returns-then-tiles-r : goal.returns-then-tiles-r
returns-then-tiles-r c =
    goes_on _ _ _ c.requires.1 c.requires.2 (node-passed _ _ _ c.requires.1 c.requires.2 c.in-Ok.ensures c.offset_to_global_coord-origin.ensures.0
    c.run_leaves-r.ensures (none-there _ c.if-is_none.ensures ∙ c.next_one.ensures) (c.from-tiles.ensures ∙ c.count_ones.ensures) c.if-tiles-r.true)
    c.in_node5.ensures

pub returns : goal.returns
returns c =
    ran-inside _ _ _ c.requires.1 c.requires.2 c.in-Ok.ensures c.offset_to_global_coord-origin.ensures.0
    c.run_leaves-r.ensures c.in_node4.ensures
