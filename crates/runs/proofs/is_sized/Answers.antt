-- The flags, the width and the count, one test after the other.
use borrow.Author.Tests.{eq-eqb, ne_eqb}
use Rattle.runs.specs.Runs.{is_sized}
use Rattle.runs.proofs.is_sized.Goals as goal

pub returns-then-c-ne2 : goal.returns-then-c-ne2
unfolding is_sized
returns-then-c-ne2 c = rw (← c.may_pack.ensures, c.if-may_pack.true, ne_eqb _ 2 c.if-c-ne2.true)

pub returns-else-c-ne2 : goal.returns-else-c-ne2
unfolding is_sized
returns-else-c-ne2 c = rw (← c.may_pack.ensures, c.if-may_pack.true, eq-eqb _ 2 c.if-c-ne2.false)

pub returns-else-may_pack : goal.returns-else-may_pack
unfolding is_sized
returns-else-may_pack c = rw (← c.may_pack.ensures, c.if-may_pack.false)
