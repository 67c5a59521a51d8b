-- Each way out is one law of the roots that are left: none, an origin that is not whole, a header that is refused, a root.
use mathlib.Core.Path.{◌∙◌}
use native.Mathlib.Omega.{arith}
use Rattle.cursor.proofs.Laws.{handed-piece, roots-end, roots-short, roots-refused, roots-node}
use Rattle.cursor.proofs.next_in_roots.Goals as goal

pub returns-then-roots_left-eq0 : goal.returns-then-roots_left-eq0
returns-then-roots_left-eq0 c = roots-end _ _ _ _ _ c.if-roots_left-eq0.true

pub returns-in_err-v : goal.returns-in_err-v
returns-in_err-v c = handed-piece _ _ _ _ c.from_residual.ensures.1 (roots-short _ _ _ _ _ (omega arith) c.in_err-v.ensures)

pub returns-in_err-q : goal.returns-in_err-q
returns-in_err-q c = handed-piece _ _ _ _ c.from_residual-in_err-q.ensures.1 (roots-refused _ _ _ _ _ (omega arith) c.in_ok-v.ensures c.in_err-q.ensures)

pub returns : goal.returns
returns c = c.next_in_node5.ensures ∙ roots-node _ _ _ _ _ (omega arith) c.in_ok-v.ensures c.in_ok-q.ensures c.origin_of.ensures
