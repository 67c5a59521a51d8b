-- The ways: under 222, the flag with a form other than 6, and else.
use borrow.Author.Tests.{lt-ltb, le-ltb, eq-eqb, ne_eqb}
use Rattle.fields.specs.Parse.{when}
use Rattle.forms.specs.Forms.{stored_by}
use Rattle.forms.proofs.stored_by.Goals.{else-c-eq1-via-then-c-eq1+else-form, else-c-eq1-via-else-c-eq1}
use Rattle.forms.proofs.stored_by.Goals as goal

pub returns-then-c-lt222 : goal.returns-then-c-lt222
unfolding stored_by when
returns-then-c-lt222 c = rw (lt-ltb _ _ c.if-c-lt222.true)

pub returns-then-form : goal.returns-then-form
unfolding stored_by when
returns-then-form c = rw (le-ltb _ _ c.if-c-lt222.false, eq-eqb _ _ c.if-c-eq1.true, c.if-form.true)

pub returns : goal.returns
unfolding stored_by when
returns c = elim c.else-c-eq1.branch [
  | else-c-eq1-via-then-c-eq1+else-form w ↦ rw (le-ltb _ _ c.if-c-lt222.false, eq-eqb _ _ w.if-c-eq1.true, w.if-form.false)
  | else-c-eq1-via-else-c-eq1 w ↦ rw (le-ltb _ _ c.if-c-lt222.false, ne_eqb _ _ w.if-c-eq1.false)
]
