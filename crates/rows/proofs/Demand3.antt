-- Demand 3 of calls over rows: in columns they are calls over five slices.
use mathlib.Core.Path.{◌≡◌, refl, sym, ap, ◌∙◌}
use mathlib.Core.List.{List, [], ◌∷◌, map, map-append, cons-ne-nil, flat_map}
use Prim.Native.Nat.{ℕ, zero, suc, ◌+◌, ◌≤◌}
use native.Mathlib.Omega.{arith}
use lib.IntN.{pos}
use lib.ListN.{length, take, drop, length-map, get_or-map}
use lib.Seq.{drop-cons}
use Rattle.std.proofs.Common.{Result, Ok, Err}
use Rattle.fields.specs.Answer.{gives}
use Rattle.fields.specs.declared.ParseError.{ParseError}
use Rattle.archive.specs.declared.Asked.{Asked}
use Rattle.tree.specs.Active.{Record}
use Rattle.slots.specs.Slots.{Slots, laid_from}
use Rattle.slots.proofs.Laws.{same, laid_same}
use Rattle.grid.specs.Grid.{open_grid}
use Rattle.grid.specs.declared.OpenedGrid.{OpenedGrid}
use Rattle.place.specs.declared.Place.{Place}
use Rattle.walk.specs.Walk.{Promise}
use Rattle.walk.specs.Demand3.{rows, in_slots, handed_out, HandsBack, Calls, slots_lent}
use Rattle.walk.proofs.Demand3.{demand3}
use Rattle.walk.specs.declared.Walked.{Walked}
use Rattle.rows.specs.Rows.{row_of, columns, RowCall, in_columns, in_row, row_out, rows_lent, Demand3Rows}
use Rattle.rows.specs.declared.Record.{Record as Row}
use Rattle.rows.proofs.Columns.{columns-count}

abbrev none : Row
none = record { x = pos 0; y = pos 0; z = pos 0; level = 0; value = 0 }

-- the slots of the columns, from slot i on, are the row's
rows_of : (row : List Row) (i n : ℕ) → i + n ≤ length row → map row_of (rows (columns row) i n) ≡ take n (drop i row)
unfolding rows
rows_of row i zero h = refl
rows_of row i (suc n) h =
    rw (
      drop-cons row i none (omega arith),
      get_or-map (λ (r : Row). r.x) row i none,
      get_or-map (λ (r : Row). r.y) row i none,
      get_or-map (λ (r : Row). r.z) row i none,
      get_or-map (λ (r : Row). r.level) row i none,
      get_or-map (λ (r : Row). r.value) row i none,
      rows_of row (suc i) n (omega arith),
    )

-- a call leaves the row as long as it was
columns-long : (a b : List Row) (rs : List Record) → columns b ≡ laid_from (columns a) 0 rs → length b ≡ length a
columns-long a b rs e = sym (length-map b (λ (r : Row). r.x)) ∙ ap (λ (t : Slots). length t.x) e ∙ (laid_same (columns a) 0 rs (same (columns a))).in-x ∙ length-map a (λ (r : Row). r.x)

call_rows : (s : List ℕ) (p : Place) (a b : List Row) (r : Result Walked ParseError) → Promise s p (columns a) r (columns b) → map row_of (in_slots r (columns b)) ≡ in_row r b
call_rows s p a b (Ok w) q =
    let d = q.some-records w refl in
    let l = columns-long a b d.0 d.3 in
    rows_of b 0 w.filled (omega (arith, d.2, columns-count a))
call_rows s p a b (Err x) q = refl

-- what the calls hand out, as rows
abbrev InRows : List RowCall → Type 0
InRows cs = flat_map row_out cs ≡ map row_of (flat_map handed_out (map in_columns cs))

none_left : (cs : List RowCall) → map in_columns cs ≡ [] → InRows cs
unfolding flat_map
none_left [] e = refl
none_left (c ∷ cs) e = absurd (cons-ne-nil _ _ e)

calls-rows : (s : List ℕ) (p : Place) (cs : List RowCall) → Calls s p (map in_columns cs) → InRows cs
unfolding flat_map
calls-rows s p [] q = refl
calls-rows s p (c ∷ cs) q = rw (map-append, call_rows s p c.before c.after c.answer q.0, go c.answer (λ p. calls-rows s p cs) q.1)
  where
    go : (r : Result Walked ParseError) → ((p : Place) → Calls s p (map in_columns cs) → InRows cs) → HandsBack r (λ p. Calls s p (map in_columns cs)) (map in_columns cs ≡ []) → InRows cs
    go (Ok w) later q = later w.place q
    go (Err x) later e = none_left cs e

lent_rows : (cs : List RowCall) → slots_lent (map in_columns cs) ≡ rows_lent cs
unfolding slots_lent rows_lent
lent_rows [] = refl
lent_rows (c ∷ cs) = rw (columns-count, lent_rows cs)

pub demand3-rows :
    (s : List ℕ) (asked : Asked) (name : List ℕ) (o : OpenedGrid) → gives o ≡ open_grid s asked name → (cs : List RowCall) → Calls s o.place (map in_columns cs) →
    Demand3Rows s asked name o cs
demand3-rows s asked name o e cs q =
    let d = demand3 s asked name o e (map in_columns cs) q in
    record { demand = d; rows = calls-rows s o.place cs q ∙ ap (map row_of) (rw lent_rows at d.records) }
