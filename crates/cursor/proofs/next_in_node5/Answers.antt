-- The words are no node's, a 4-node is next, or none is left and the cursor behind the 5-node stands between roots.
use mathlib.Core.Path.{◌∙◌}
use Rattle.std.specs.Prelude.{Ok}
use Rattle.fields.specs.Says.{says_answer}
use Rattle.fields.proofs.Laws.{told}
use Rattle.cursor.specs.Inner.{rest5}
use Rattle.cursor.proofs.Laws.{handed-piece, next-origin, next_place, children-refused, children-none, children-some, to-come0, leaving-before}
use Rattle.cursor.proofs.next_in_node5.Goals as goal

pub returns-in_err-p : goal.returns-in_err-p
unfolding rest5
returns-in_err-p c = handed-piece _ _ _ _ c.from_residual.ensures.1 (children-refused _ _ _ _ _ _ _ _ c.in_err-p.ensures)

pub node4_at-requires : goal.node4_at-requires
node4_at-requires c =
    let e = told (λ o. says_answer (Ok o)) c.in-Some.is c.in_ok-p.ensures in
    (c.requires, next-origin _ _ _ _ e, next_place _ _ _ _ e)

pub returns-in-Some : goal.returns-in-Some
unfolding rest5
returns-in-Some c =
    c.node4_at.ensures ∙ children-some _ _ _ _ _ _ _ _ (told (λ o. says_answer (Ok o)) c.in-Some.is c.in_ok-p.ensures)

pub returns-in-None : goal.returns-in-None
unfolding rest5
returns-in-None c =
    c.leave.ensures ∙ leaving-before _ _ _ _ _ _ c.between_roots-behind.ensures (to-come0 _ _ _ _ _)
    ∙ children-none _ _ _ _ _ _ _ _ (told (λ o. says_answer (Ok o)) c.in-None.is c.in_ok-p.ensures)
