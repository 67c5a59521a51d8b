-- Each test by itself.
use Rattle.fields.specs.Parse.{when}
use Rattle.leaves.proofs.right_slots.Goals as goal

pub returns-then-single : goal.returns-then-single
unfolding when
returns-then-single c = rw c.if-single.true

pub returns-else-single : goal.returns-else-single
unfolding when
returns-else-single c = rw c.if-single.false
