-- The bits of the mask, or none.
use native.Mathlib.Omega.{arith}
use Rattle.expand.proofs.Laws.{at-word, no_word}
use Rattle.expand.proofs.selection_word.Goals as goal

pub word-requires : goal.word-requires
word-requires c = let p = c.requires in (rw c.in-Some.is at p.0, omega arith, omega arith)

pub returns-in-Some : goal.returns-in-Some
returns-in-Some c = rw c.in-Some.is (at-word _ _ _ _ c.word.ensures (omega arith))

pub returns-in-None : goal.returns-in-None
returns-in-None c = rw c.in-None.is (no_word _ 0 _)
