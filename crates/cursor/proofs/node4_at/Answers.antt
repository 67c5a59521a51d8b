-- The 4-node's header is refused, or what comes from its first place on is the answer.
use mathlib.Core.Path.{◌∙◌}
use Rattle.cursor.specs.Inner.{node4_rest}
use Rattle.cursor.proofs.Laws.{handed-piece, after-fails, node4-there}
use Rattle.cursor.proofs.node4_at.Goals as goal

pub returns-in_err-q : goal.returns-in_err-q
unfolding node4_rest
returns-in_err-q c = handed-piece _ _ _ _ c.from_residual.ensures.1 (after-fails _ c.in_err-q.ensures)

pub returns : goal.returns
returns c = c.next_in_node4.ensures ∙ node4-there _ _ _ _ _ _ _ _ c.in_ok-q.ensures c.offset_to_global_coord.ensures.0
