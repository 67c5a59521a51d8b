-- Demand 3 for callers in another language: any list of calls of `vdb_walk` over one accepted grid. The theorem is `walks` in proofs/Calls.antt.
use Rattle.std.specs.Prelude.{ℕ, ◌≡◌, List, [], ◌∷◌}
use Rattle.archive.specs.declared.Asked.{Asked}
use Rattle.slots.specs.Slots.{Slots}
use Rattle.walk.specs.Demand3.{Call, Demand3}
use Rattle.walk.specs.declared.Walked.{Walked}
use Rattle.fields.specs.Answer.{gives}
use Rattle.fields.specs.Says.{says_answer}
use Rattle.grid.specs.declared.OpenedGrid.{OpenedGrid}
use Rattle.grid_calls.specs.Calls.{WalkCall}

-- A call, as it ended: the words of the place, the counts and the slots lent, the number returned, and what the three then hold.
pub record WordCall (s : List ℕ) : Type 0 where
  pub words : List ℕ
  pub counts : List ℕ
  pub before : Slots
  pub returned : ℕ
  pub words' : List ℕ
  pub counts' : List ℕ
  pub after : Slots
  pub promised : WalkCall s words counts before returned words' counts' after

-- the first call with these words, each later one with the words that the call before it left
abbrev pub Chained : {s : List ℕ} → List ℕ → List (WordCall s) → Type 0
Chained w [] = Unit {0}
Chained w (c ∷ cs) = (c.words ≡ w) × Chained c.words' cs

-- the walk call that stands behind a call, and behind each of a list
abbrev pub walk_call : {s : List ℕ} → WordCall s → Call
walk_call c = record { before = c.before; answer = c.promised.answer; after = c.after }

unfoldable pub walk_calls : {s : List ℕ} → List (WordCall s) → List Call
walk_calls [] = []
walk_calls (c ∷ cs) = walk_call c ∷ walk_calls cs

-- each call returns 0 and leaves in the counts the numbers filled and left that its walk call reports
abbrev pub Served : {s : List ℕ} → List (WordCall s) → Type 0
Served [] = Unit {0}
Served (c ∷ cs) =
    ((w : Walked) × (says_answer c.promised.answer ≡ gives w) × (c.returned ≡ 0) × (c.counts' ≡ w.filled ∷ w.left ∷ [])) × Served cs

-- What holds of such calls over an opened grid o: demand 3 holds of the walk calls behind them, and each is served.
pub record Walks (s : List ℕ) (asked : Asked) (name : List ℕ) (o : OpenedGrid) (cs : List (WordCall s)) : Type 0 where
  pub records : Demand3 s asked name o (walk_calls cs)
  pub served : Served cs
