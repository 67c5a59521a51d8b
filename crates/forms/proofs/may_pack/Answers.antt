-- The first test is the first part of the definition, what is left the second.
use Rattle.forms.specs.Forms.{may_pack}
use borrow.Author.Tests.{eq-eqb, ne_eqb}
use Prim.Native.Nat.{◌%◌}
use Rattle.forms.proofs.may_pack.Goals as goal

pub returns-then-flags-eq1 : goal.returns-then-flags-eq1
unfolding may_pack
returns-then-flags-eq1 c = rw (eq-eqb (c.args.flags % 2) 1 c.if-flags-eq1.true)

pub returns-else-flags-eq1 : goal.returns-else-flags-eq1
unfolding may_pack
returns-else-flags-eq1 c = rw (ne_eqb (c.args.flags % 2) 1 c.if-flags-eq1.false)
