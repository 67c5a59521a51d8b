-- What is left from the words passed is the whole answer.
use mathlib.Core.Path.{◌≡◌}
use Prim.Native.Nat.{◌*◌}
use lib.ListN.{drop}
use Rattle.fields.specs.Fields.{same_bytes}
use Rattle.fields.proofs.same_words.Given as goal

abbrev pub invariant-loop-k : goal.invariant-loop-k
invariant-loop-k l = same_bytes (drop (8 * l.k) l.a) (drop (8 * l.k) l.b) ≡ same_bytes l.a l.b
