-- The fields in their order; each way out is the definition up to the field or the check that fails.
use Rattle.fields.proofs.Steps.{read, handed-on}
use Rattle.roots.specs.Roots.{tree_head_field}
use Rattle.roots.proofs.Laws.{one-buffer, other-buffers, few-roots, many-roots, no-count, no-root-count}
use Rattle.roots.proofs.read_tree_head.Goals as goal

pub returns-in_err-buffers : goal.returns-in_err-buffers
unfolding tree_head_field
returns-in_err-buffers c = handed-on _ _ c.from_residual.ensures.1 (search (read, no-count _ _ c.in_err-buffers.ensures))

pub returns-then-buffers-ne1 : goal.returns-then-buffers-ne1
unfolding tree_head_field
returns-then-buffers-ne1 c = search (read, other-buffers _ _ c.in_ok-buffers.ensures c.if-buffers-ne1.true)

pub returns-in_err-background : goal.returns-in_err-background
unfolding tree_head_field
returns-in_err-background c = handed-on _ _ c.from_residual-in_err-background.ensures.1 (search (read, one-buffer _ _ c.in_ok-buffers.ensures c.if-buffers-ne1.false, c.in_err-background.ensures))

pub returns-in_err-tile_count : goal.returns-in_err-tile_count
unfolding tree_head_field
returns-in_err-tile_count c = handed-on _ _ c.from_residual-in_err-tile_count.ensures.1 (search (read, one-buffer _ _ c.in_ok-buffers.ensures c.if-buffers-ne1.false, c.in_ok-background.ensures, c.in_err-tile_count.ensures) depth 7)

pub returns-in_err-root_count : goal.returns-in_err-root_count
unfolding tree_head_field
returns-in_err-root_count c = handed-on _ _ c.from_residual-in_err-root_count.ensures.1 (search (read, one-buffer _ _ c.in_ok-buffers.ensures c.if-buffers-ne1.false, c.in_ok-background.ensures, c.in_ok-tile_count.ensures, no-root-count _ c.args.limit _ c.in_err-root_count.ensures) depth 8)

pub returns-then-limit-root_count : goal.returns-then-limit-root_count
unfolding tree_head_field
returns-then-limit-root_count c = search (read, one-buffer _ _ c.in_ok-buffers.ensures c.if-buffers-ne1.false, c.in_ok-background.ensures, c.in_ok-tile_count.ensures, many-roots _ _ _ c.in_ok-root_count.ensures c.if-limit-root_count.true) depth 8

pub returns-in_err-roots_pos : goal.returns-in_err-roots_pos
unfolding tree_head_field
returns-in_err-roots_pos c = handed-on _ _ c.from_residual-in_err-roots_pos.ensures.1 (search (read, one-buffer _ _ c.in_ok-buffers.ensures c.if-buffers-ne1.false, c.in_ok-background.ensures, c.in_ok-tile_count.ensures, few-roots _ _ _ c.in_ok-root_count.ensures c.if-limit-root_count.false, c.in_err-roots_pos.ensures) depth 9)

pub returns : goal.returns
unfolding tree_head_field
returns c = search (read, one-buffer _ _ c.in_ok-buffers.ensures c.if-buffers-ne1.false, c.in_ok-background.ensures, c.in_ok-tile_count.ensures, few-roots _ _ _ c.in_ok-root_count.ensures c.if-limit-root_count.false, c.in_ok-roots_pos.ensures) depth 10
