-- The next leaf's place, its mask and its block are read as the run's laws ask, so the run goes on behind the leaf.
use borrow.Author.Rules.{rules}
use mathlib.Core.Path.{refl, ◌∙◌}
use native.Mathlib.Omega.{arith}
use lib.Dec.{lit≤}
use Rattle.nodes.proofs.Laws.{whole-mask}
use Rattle.skip.proofs.Leaves.{child-mask, multiple, place-below, leaf-on}
use Rattle.skip.proofs.run_leaves.Goals as goal

pub next_one-requires : goal.next_one-requires
next_one-requires c = child-mask c.loop-leaves.invariant

pub count_ones-ones-requires : goal.count_ones-ones-requires
count_ones-ones-requires c = whole-mask _ _ 64 refl (lit≤ tt) c.in-Ok.ensures

pub offset_to_global_coord-requires : goal.offset_to_global_coord-requires
offset_to_global_coord-requires c =
    let i = c.loop-leaves.invariant in
    (search rules, place-below i c.in-Some.ensures, multiple i)

pub pass_block-requires : goal.pass_block-requires
pass_block-requires c = (whole-mask _ _ 64 refl (lit≤ tt) c.in-Ok.ensures, c.requires.0, c.count_ones-ones.ensures)

pub overflow_add-next : goal.overflow_add-next
overflow_add-next c = omega (arith, place-below c.loop-leaves.invariant c.in-Some.ensures)

pub loop-leaves-preserved : goal.loop-leaves-preserved
loop-leaves-preserved c =
    leaf-on c.loop-leaves.invariant c.in-Some.ensures c.in-Ok.ensures c.offset_to_global_coord.ensures.0 (c.from-n.ensures ∙ c.count_ones-ones.ensures)
    c.if-records-n.false c.loop-leaves-test.true c.in-Ok-pass_block.ensures
