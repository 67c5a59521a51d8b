-- The second inactive value where the place is selected, else the first.
use Rattle.fields.specs.Parse.{when}
use Rattle.values.specs.Values.{is_selected, inactive_value}
use Rattle.values.proofs.inactive_value.Goals as goal

pub returns-in_default : goal.returns-in_default
unfolding is_selected inactive_value when
returns-in_default c = rw c.in_default.is

pub returns-then-bit : goal.returns-then-bit
unfolding is_selected inactive_value when
returns-then-bit c = rw (c.in-Some.is, ← c.bit.ensures, c.if-bit.true)

pub returns : goal.returns
unfolding is_selected inactive_value when
returns c = rw (c.in-Some.is, ← c.bit.ensures, c.if-bit.false)
