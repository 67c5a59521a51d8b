-- Demand 3 for callers in another language: a place crosses as words that stand for it, so the calls are walk calls one after the other.
use mathlib.Core.Path.{◌≡◌, refl, sym, ap, ◌∙◌}
use mathlib.Core.List.{List, [], ◌∷◌}
use Prim.Native.Nat.{ℕ, ◌+◌, ◌≤◌}
use native.Mathlib.Omega.{arith}
use lib.ListN.{length, length-take, length-drop}
use Rattle.fields.specs.Answer.{gives}
use Rattle.fields.specs.Says.{says_answer}
use Rattle.archive.specs.declared.Asked.{Asked}
use Rattle.fields.proofs.Answers.{with-back, gives_same}
use Rattle.slots.specs.Slots.{slot_count}
use Rattle.grid.specs.Grid.{Grid, grid, open_grid, active_of, place_after}
use Rattle.grid.specs.declared.OpenedGrid.{OpenedGrid}
use Rattle.walk.specs.Walk.{next_records, walked_to}
use Rattle.walk.specs.Demand3.{Calls}
use Rattle.walk.specs.declared.Walked.{Walked}
use Rattle.walk.proofs.Demand3.{answered, demand3}
use Rattle.words.specs.Words.{StandFor}
use Rattle.outward.specs.Outward.{laid}
use Rattle.grid_calls.specs.Calls.{walk_words, OpenCall}
use Rattle.vdb.specs.Calls.{WordCall, Chained, walk_calls, Served, Walks}

-- what an answer that gives w leaves
left_so : {s : List ℕ} (c : WordCall s) {w : Walked} → says_answer c.promised.answer ≡ gives w → (c.returned ≡ 0) × (c.counts' ≡ w.filled ∷ w.left ∷ [])
unfolding laid
left_so c e =
    let l = c.promised.left ∙ ap (λ (m : _). laid m walk_words (c.words, c.counts)) e in
    (ap (λ (x : ℕ × (List ℕ × List ℕ)). x.0) l, ap (λ (x : ℕ × (List ℕ × List ℕ)). x.1.1) l)

module _ (s : List ℕ) (asked : Asked) (name : List ℕ) {g : Grid} (accepted : gives g ≡ grid s asked name) where
  -- from words that stand for the place after m records
  go_on :
      (m : ℕ) (w : List ℕ) (cs : List (WordCall s)) → m ≤ length (active_of s g) → StandFor w (place_after s g m) → Chained w cs →
      Calls s (place_after s g m) (walk_calls cs) × Served cs
  unfolding walk_calls
  go_on m w [] h e q = (tt, tt)
  go_on m w (c ∷ cs) h e q =
      let k = length (next_records s g m (slot_count c.before)) in
      let small : m + k ≤ length (active_of s g) = simp (length-take, length-drop) (omega arith) in
      let p : StandFor c.words (place_after s g m) = rw q.0 e in
      let here = c.promised.walked (place_after s g m) p in
      let d = (here.reached asked name g m accepted h refl).0 in
      let a = answered c.promised.answer d in
      let later = go_on (m + k) c.words' cs small (c.promised.stands _ d) q.1 in
      ((here, rw a later.0), ((walked_to s g m k, d, (left_so c d).0, (left_so c d).1), later.1))

-- The theorem: the first call is given the words that opening the grid left.
pub walks :
    (s : List ℕ) (asked : Asked) (name : List ℕ) (o : OpenedGrid) → gives o ≡ open_grid s asked name →
    {out place out' place' : List ℕ} {r : ℕ} → OpenCall s (open_grid s asked name) out place r out' place' →
    (cs : List (WordCall s)) → Chained place' cs → Walks s asked name o cs
unfolding open_grid
walks s asked name o e {place' = w} call cs q =
    let a = with-back (grid s asked name) _ e in
    let f = gives_same a.2 in
    let p = ap (λ (o : OpenedGrid). o.place) f in
    let all = go_on s asked name a.1 0 w cs (omega arith) (let f = call.stands o (sym e) in (f.0, f.1 ∙ p)) q in
    record { records = demand3 s asked name o e (walk_calls cs) (rw p all.0); served = all.1 }
