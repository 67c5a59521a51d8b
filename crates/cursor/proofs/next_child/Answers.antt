-- Words that are a node's have their mask in the file, which is what the search for the next one needs.
use mathlib.Core.Path.{refl, sym, ap}
use Rattle.fields.specs.Answer.{gives}
use Rattle.fields.proofs.Laws.{is_true, is_false, when_true, when_false}
use Rattle.cursor.specs.Inner.{next_child}
use Rattle.cursor.proofs.Laws.{entered-back}
use Rattle.cursor.proofs.next_child.Goals as goal

pub returns-then-not-is_entered : goal.returns-then-not-is_entered
unfolding next_child
returns-then-not-is_entered c = when_false _ (is_false c.if-not-is_entered.true c.is_entered.ensures) refl

pub next_one-requires : goal.next_one-requires
next_one-requires c =
    let pre = c.requires in
    let node = entered-back _ _ _ _ (sym (is_true c.if-not-is_entered.false c.is_entered.ensures)) in
    (record { within = node.within; words = pre.1; small = pre.2 }, node.places)

pub returns : goal.returns
unfolding next_child
returns c = when_true _ (is_true c.if-not-is_entered.false c.is_entered.ensures) (ap gives c.next_one.ensures)
