-- What is asked for is told by a constant.
use borrow.Author.Rules.{rules}
use Rattle.fields.specs.Parse.{when}
use Rattle.leaves.proofs.fill_leaves_named.Goals as goal

pub returns : goal.returns
unfolding when
returns c = search rules
