-- The three questions are the three cases of the definition.
use Rattle.archive.proofs.Laws.{asked_is}
use Rattle.archive.specs.Archive.{is_asked}
use Rattle.archive.proofs.is_asked.Goals as goal

pub returns-in-Nothing : goal.returns-in-Nothing
unfolding is_asked
returns-in-Nothing c = search asked_is

pub returns-in-ByName : goal.returns-in-ByName
unfolding is_asked
returns-in-ByName c = search asked_is

pub returns-in-ByNumber : goal.returns-in-ByNumber
unfolding is_asked
returns-in-ByNumber c = search asked_is
