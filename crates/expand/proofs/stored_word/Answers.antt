-- All bits, those of the value mask, or those that a child mask lacks.
use native.Mathlib.Omega.{arith}
use Rattle.expand.proofs.Laws.{every-word, active-word, childless-word}
use Rattle.expand.proofs.stored_word.Goals as goal

pub returns-in-Every : goal.returns-in-Every
returns-in-Every c = rw c.in-Every.is (every-word _ _ _)

pub returns-in-Active : goal.returns-in-Active
returns-in-Active c = rw c.in-Active.is (active-word _ _ _ _ c.word.ensures (omega arith))

pub returns-in-Childless : goal.returns-in-Childless
returns-in-Childless c = rw c.in-Childless.is (childless-word _ _ _ _ c.word-in-Childless.ensures (omega arith))
