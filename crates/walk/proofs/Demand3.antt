-- Demand 3: what any calls over one accepted grid hand out and report.
use mathlib.Core.Path.{◌≡◌, refl, ap, ◌∙◌}
use mathlib.Core.List.{List, [], ◌∷◌, flat_map}
use Prim.Native.Nat.{ℕ, suc, ◌+◌, ◌-◌, ◌≤◌, ◌<◌, min}
use native.Mathlib.Omega.{arith}
use lib.IntN.{pos}
use lib.ListN.{length, get_or, take, drop, take-append-drop, length-take, length-drop, length-set}
use lib.Seq.{take-append_seam, drop-append_seam, get_or-set_same, get_or-set_other, drop-drop, take-add}
use Rattle.fields.specs.Answer.{gives}
use Rattle.archive.specs.declared.Asked.{Asked}
use Rattle.fields.proofs.Answers.{with-back, gives_same}
use Rattle.tree.specs.Active.{Record}
use Rattle.slots.specs.Slots.{Slots, slot_count, put, laid_from}
use Rattle.grid.specs.Grid.{Grid, grid, open_grid, opened_of, active_of, place_after}
use Rattle.grid.specs.declared.OpenedGrid.{OpenedGrid}
use Rattle.grid.proofs.Coverage.{apart, covered}
use Rattle.std.proofs.Common.{Result, Ok, Err}
use Rattle.fields.specs.Says.{says_answer}
use Rattle.fields.specs.declared.ParseError.{ParseError}
use Rattle.walk.specs.Walk.{walked_to, next_records}
use Rattle.walk.specs.Demand3.{Call, rows, handed_out, Calls, slots_lent, Reports, Demand3}
use Rattle.walk.specs.declared.Walked.{Walked}

-- Where a list has fewer than k members: as many as it has, in place of k, take and drop the same.
module _ {A : Type 0} (k : ℕ) (l : List A) where
  pub take-there : take (length (take k l)) l ≡ take k l
  take-there = rw (take-append-drop k l) at (take-append_seam (take k l) (drop k l))

  drop-there : drop (length (take k l)) l ≡ drop k l
  drop-there = rw (take-append-drop k l) at (drop-append_seam (take k l) (drop k l))

-- the record in slot i
abbrev row : Slots → ℕ → Record
row t i = record { corner = (get_or t.x i (pos 0), get_or t.y i (pos 0), get_or t.z i (pos 0)); level = get_or t.level i 0; value = get_or t.value i 0 }

-- records from slot j on leave the slots before it as they were
row_kept : (t : Slots) (i j : ℕ) (rs : List Record) → i < j → row (laid_from t j rs) i ≡ row t i
unfolding laid_from
row_kept t i j [] h = refl
row_kept t i j (r ∷ rs) h =
    let n : i ≡ j → ⊥ = λ e. omega arith in
    row_kept (put t j r) i (suc j) rs (omega arith) ∙ simp get_or-set_other

-- a record that is put into a slot stands there
row_put : (t : Slots) (i : ℕ) (r : Record) → i < slot_count t → row (put t i r) i ≡ r
row_put t i r h =
    rw (
      get_or-set_same t.x i _ _ (omega arith),
      get_or-set_same t.y i _ _ (omega arith),
      get_or-set_same t.z i _ _ (omega arith),
      get_or-set_same t.level i _ _ (omega arith),
      get_or-set_same t.value i _ _ (omega arith),
    )

-- records from slot i on, where there are slots for all, stand there
pub rows-laid : (t : Slots) (i : ℕ) (rs : List Record) → i + length rs ≤ slot_count t → rows (laid_from t i rs) i (length rs) ≡ rs
unfolding laid_from rows
rows-laid t i [] h = refl
rows-laid t i (r ∷ rs) h =
    let here = row_kept (put t i r) i (suc i) rs (omega arith) ∙ row_put t i r (omega arith) in
    cc (here, rows-laid (put t i r) (suc i) rs (simp length-set (omega arith)))

-- an answer that gives w is w
pub answered : (r : Result Walked ParseError) {w : Walked} → says_answer r ≡ gives w → r ≡ Ok w
answered (Ok v) e = ap Ok (gives_same e)
answered (Err x) e = let z : ◌≡◌ {A = ℕ} 0 1 = cc in absurd (omega arith)

module _ (s : List ℕ) (asked : Asked) (name : List ℕ) {g : Grid} (accepted : gives g ≡ grid s asked name) where
  -- Calls from the place after m records hand out those that come next, as many as there are slots, and report what they should.
  go_on :
      (m : ℕ) (cs : List Call) → m ≤ length (active_of s g) → Calls s (place_after s g m) cs →
      (flat_map handed_out cs ≡ take (slots_lent cs) (drop m (active_of s g))) × Reports (length (active_of s g)) m cs
  unfolding flat_map slots_lent
  go_on m [] h q = (refl, tt)
  go_on m (c ∷ cs) h q =
      let k = slot_count c.before in
      let next = next_records s g m k in
      let l : length next ≡ min k (length (active_of s g) - m) = simp (length-take, length-drop) in
      let d = q.0.reached asked name g m accepted h refl in
      let e : c.answer ≡ Ok (walked_to s g m (length next)) = answered c.answer d.0 in
      let f : handed_out c ≡ next = rw (e, d.1) (rows-laid c.before 0 next (omega arith)) in
      let later = go_on (m + length next) cs (omega arith) (rw e at q.1) in
      let there = drop-there k (drop m (active_of s g)) in
      (rw (f, later.0, take-add k (slots_lent cs), ← there, drop-drop), ((walked_to s g m (length next), d.0, l, ap length f, refl), rw f later.1))

-- The theorem of demand 3: any calls over an accepted grid, the first from the place that opening it gave.
pub demand3 :
    (s : List ℕ) (asked : Asked) (name : List ℕ) (o : OpenedGrid) → gives o ≡ open_grid s asked name → (cs : List Call) → Calls s o.place cs → Demand3 s asked name o cs
unfolding open_grid
demand3 s asked name o e cs q =
    let a = with-back (grid s asked name) _ e in
    let g = a.0 in
    let f : o ≡ opened_of s g = gives_same a.2 in
    let all = go_on s asked name a.1 0 cs (omega arith) (rw f at q) in
    let n : min (length (active_of s g)) (slots_lent cs) ≡ length (take (slots_lent cs) (active_of s g)) = rw length-take (omega arith) in
    rw f record {
      grid = g;
      accepted = a.1;
      counted = refl;
      records = rw (n, take-there) all.0;
      each = all.1;
      apart = apart s asked name a.1;
      covered = covered s asked name a.1;
    }
