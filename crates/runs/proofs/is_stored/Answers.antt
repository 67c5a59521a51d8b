-- Each kind of stored places has its test.
use mathlib.Core.Path.{ap}
use mathlib.Core.Bool.{not}
use Rattle.runs.specs.Runs.{is_stored}
use Rattle.runs.proofs.is_stored.Goals as goal

pub returns-in-Every : goal.returns-in-Every
unfolding is_stored
returns-in-Every c = rw c.in-Every.is

pub returns-in-Active : goal.returns-in-Active
unfolding is_stored
returns-in-Active c = rw c.in-Active.is c.bit.ensures

pub returns-in-Childless : goal.returns-in-Childless
unfolding is_stored
returns-in-Childless c = rw c.in-Childless.is (ap not c.bit-in-Childless.ensures)
