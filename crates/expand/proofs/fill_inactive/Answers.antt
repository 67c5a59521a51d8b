-- Exactly the places that are not stored are selected; or all have the first value, and then the selected ones the second.
use native.Mathlib.Omega.{arith}
use Rattle.expand.proofs.Laws.{others-selected, selected-set}
use Rattle.expand.proofs.fill_inactive.Goals as goal

pub returns-then-w-ones : goal.returns-then-w-ones
returns-then-w-ones c = others-selected c.selection_word-w.ensures _ c.requires.3 (omega (arith, c.ranges.ones)) c.if-w-ones.true c.fill_same.ensures

pub returns : goal.returns
returns c = selected-set c.selection_word-w.ensures _ c.requires.3 _ c.fill_same-2.ensures c.put_same.ensures
