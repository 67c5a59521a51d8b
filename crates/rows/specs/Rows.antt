-- Section 7: a row of record slots, as a slice of structs; and demand 3 of calls over rows. The theorem is `demand3-rows` in proofs/Demand3.antt.
use Rattle.std.specs.Prelude.{ℕ, Result, Ok, Err, ◌+◌, min, ◌≡◌, length, take}
use mathlib.Core.List.{List, [], ◌∷◌, map, flat_map}
use Rattle.fields.specs.declared.ParseError.{ParseError}
use Rattle.archive.specs.declared.Asked.{Asked}
use Rattle.tree.specs.Active.{Record}
use Rattle.slots.specs.Slots.{Slots, slots_of}
use Rattle.grid.specs.Grid.{active_of}
use Rattle.grid.specs.declared.OpenedGrid.{OpenedGrid}
use Rattle.walk.specs.Demand3.{Call, Demand3}
use Rattle.walk.specs.declared.Walked.{Walked}
use Rattle.rows.specs.declared.Record.{Record as Row}

-- a record as a row has it
abbrev pub row_of : Record → Row
row_of r = record { x = r.corner.0; y = r.corner.1; z = r.corner.2; level = r.level; value = r.value }

-- the row's five columns: what the walk call over five slices of numbers has in its place
abbrev pub columns : List Row → Slots
columns row = slots_of (map (λ r. r.x) row) (map (λ r. r.y) row) (map (λ r. r.z) row) (map (λ r. r.level) row) (map (λ r. r.value) row)

-- A walk call over a row, as it ended; and the same as a call over five slices.
pub record RowCall : Type 0 where
  pub before : List Row
  pub answer : Result Walked ParseError
  pub after : List Row

abbrev pub in_columns : RowCall → Call
in_columns c = record { before = columns c.before; answer = c.answer; after = columns c.after }

-- what a call hands out: its filled slots as it ends; none where it is refused
abbrev pub in_row : Result Walked ParseError → List Row → List Row
in_row (Ok w) row = take w.filled row
in_row (Err e) row = []

abbrev pub row_out : RowCall → List Row
row_out c = in_row c.answer c.after

-- all slots lent
unfoldable pub rows_lent : List RowCall → ℕ
rows_lent [] = 0
rows_lent (c ∷ cs) = length c.before + rows_lent cs

-- Demand 3 of calls over rows: of the same calls over five slices; and the rows handed out, joined in call order, are the first of the active list.
pub record Demand3Rows (s : List ℕ) (asked : Asked) (name : List ℕ) (o : OpenedGrid) (cs : List RowCall) : Type 0 where
  pub demand : Demand3 s asked name o (map in_columns cs)
  pub rows : flat_map row_out cs ≡ map row_of (take (min o.active_count (rows_lent cs)) (active_of s demand.grid))
