-- Two names differ where their lengths do, or a byte of theirs.
use Rattle.fields.proofs.Laws.{same_length, same_place}
use Rattle.archive.proofs.told_apart.Goals as goal

pub returns-then-a-b : goal.returns-then-a-b
returns-then-a-b c _ = same_length _ _ c.if-a-b.true

pub returns-then-a-p : goal.returns-then-a-p
returns-then-a-p c _ = same_place _ _ _ c.if-a-p.true
