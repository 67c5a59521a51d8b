-- What is to come is defined by the same two tests of the depth.
use borrow.Author.Tests.{eq-eqb, ne_eqb}
use mathlib.Core.Path.{sym}
use native.Mathlib.Omega.{arith}
use Rattle.fields.proofs.Laws.{when_true, when_false}
use Rattle.cursor.specs.Inner.{to_come}
use Rattle.cursor.proofs.next_piece.Goals as goal

pub returns-in-0 : goal.returns-in-0
unfolding to_come
returns-in-0 c = when_true _ (sym (eq-eqb _ _ c.in-0.is)) c.next_in_roots.ensures

pub returns-in-1 : goal.returns-in-1
unfolding to_come
returns-in-1 c = when_false _ (sym (ne_eqb _ _ (omega arith))) (when_true _ (sym (eq-eqb _ _ c.in-1.is)) c.next_in_node5.ensures)

pub returns-in_default : goal.returns-in_default
unfolding to_come
returns-in_default c = when_false _ (sym (ne_eqb _ _ (omega arith))) (when_false _ (sym (ne_eqb _ _ (omega arith))) c.next_in_node4.ensures)
