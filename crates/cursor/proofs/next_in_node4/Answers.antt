-- The words are no node's, a leaf is next, or none is left and the cursor behind the 4-node stands in its 5-node.
use mathlib.Core.Path.{ap, ◌∙◌}
use Rattle.std.specs.Prelude.{Ok}
use Rattle.fields.specs.Says.{says_answer}
use Rattle.fields.proofs.Laws.{told}
use Rattle.cursor.specs.Inner.{rest4}
use Rattle.cursor.specs.declared.Cursor.{Cursor}
use Rattle.cursor.specs.declared.Entered.{Entered}
use Rattle.cursor.proofs.Laws.{handed-piece, next-origin, next_place, children-refused, children-none, children-some, to-come5, leaving-before}
use Rattle.cursor.proofs.next_in_node4.Goals as goal

-- what the code makes of the cursor between roots
abbrev entering : Entered → Cursor → Cursor
entering w x = record { depth = 1; roots_left = x.roots_left; node5 = w; node4 = x.node4; topology_pos = x.topology_pos; block_pos = x.block_pos }

pub returns-in_err-p : goal.returns-in_err-p
unfolding rest4
returns-in_err-p c = handed-piece _ _ _ _ c.from_residual.ensures.1 (children-refused _ _ _ _ _ _ _ _ c.in_err-p.ensures)

pub leaf_at-requires : goal.leaf_at-requires
leaf_at-requires c =
    let e = told (λ o. says_answer (Ok o)) c.in-Some.is c.in_ok-p.ensures in
    (c.requires, next-origin _ _ _ _ e, next_place _ _ _ _ e)

pub returns-in-Some : goal.returns-in-Some
unfolding rest4
returns-in-Some c =
    c.leaf_at.ensures ∙ children-some _ _ _ _ _ _ _ _ (told (λ o. says_answer (Ok o)) c.in-Some.is c.in_ok-p.ensures)

pub returns-in-None : goal.returns-in-None
unfolding rest4
returns-in-None c =
    let e = c.between_roots.ensures in
    c.leave.ensures ∙ leaving-before _ _ _ _ _ _ (ap (entering _) e) (to-come5 _ _ _ _ _ _)
    ∙ children-none _ _ _ _ _ _ _ _ (told (λ o. says_answer (Ok o)) c.in-None.is c.in_ok-p.ensures)
