-- The invariant: the first six words are as they were, and behind them stand the doubles passed.
use mathlib.Core.List.{◌++◌}
use mathlib.Core.Path.{◌≡◌}
use Prim.Native.Nat.{◌+◌}
use lib.ListN.{length, take}
use Rattle.outward.specs.Outward.{double_at, table}
use Rattle.outward.proofs.opened_words.Given as goal

abbrev pub invariant-loop-i : goal.invariant-loop-i
invariant-loop-i l = (length l.out ≡ 32) × (take (6 + l.i) l.out ≡ take 6 l.initial.out ++ table (double_at l.s l.start l.count) l.i)
