-- The two halves of the word.
use Rattle.std.proofs.Common.{rules}
use Rattle.fields.specs.Le.{u64_at}
use Rattle.fields.proofs.u64_at.Goals as goal

pub returns : goal.returns
unfolding u64_at
returns c = search rules
