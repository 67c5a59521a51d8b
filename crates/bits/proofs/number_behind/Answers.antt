-- Where every place is stored, the places passed are counted, and else the active ones.
use Rattle.bits.proofs.Ones.{number-every, number-active}
use Rattle.bits.proofs.number_behind.Goals as goal

pub returns-then-w-eq0 : goal.returns-then-w-eq0
returns-then-w-eq0 c = number-every _ c.if-w-eq0.true _ _

pub returns : goal.returns
returns c = number-active _ c.if-w-eq0.false _ _
