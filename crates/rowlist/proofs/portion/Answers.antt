-- No more slots are filled than the row has.
use Rattle.std.proofs.Common.{ap, arith}
use Rattle.fields.specs.Says.{says_answer}
use Rattle.rowlist.proofs.portion.Goals as goal

pub records-requires : goal.records-requires
records-requires g c = let h = (c.filled_row-row.ensures.some-records c.in-Ok.w (ap says_answer c.in-Ok.is)).2 in omega (arith, h)
