-- Each kind of stored places has its count.
use Rattle.runs.specs.Runs.{is_stored}
use Rattle.runs.proofs.Laws.{count-every}
use Rattle.runs.proofs.count_of.Goals as goal

pub returns-in-Every : goal.returns-in-Every
unfolding is_stored
returns-in-Every c = rw c.in-Every.is (count-every _)

pub returns-in-Active : goal.returns-in-Active
unfolding is_stored
returns-in-Active c = rw c.in-Active.is c.requires.2

pub returns-in-Childless : goal.returns-in-Childless
unfolding is_stored
returns-in-Childless c = rw c.in-Childless.is c.count_zeros.ensures
