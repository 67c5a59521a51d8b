-- Section 7: what a walk call promises.
use Rattle.std.specs.Prelude.{ℕ, Result, ◌+◌, ◌-◌, ◌/◌, ◌≤◌, ◌<◌, ◌≡◌, List, ltb, eqb, length, take, drop}
use Rattle.fields.specs.Parse.{when}
use Rattle.coordinates.specs.Coordinates.{places}
use Rattle.fields.specs.Answer.{gives, refuses}
use Rattle.fields.specs.Says.{says_answer}
use Rattle.fields.specs.declared.ParseError.{ParseError}
use Rattle.archive.specs.declared.Asked.{Asked}
use Rattle.tree.specs.Active.{Record, edge_of}
use Rattle.slots.specs.Slots.{Slots, slot_count, laid_from}
use Rattle.grid.specs.Grid.{Grid, grid, active_of, place_after}
use Rattle.place.specs.declared.Place.{Place}
use Rattle.walk.specs.declared.Walked.{Walked}

-- the next records of a grid's active list after its first m, for k slots
abbrev pub next_records : List ℕ → Grid → ℕ → ℕ → List Record
next_records s g m k = take k (drop m (active_of s g))

-- the answer after m records, when n more are handed out: the place after all of these, how many they are, and how many are left
abbrev pub walked_to : List ℕ → Grid → ℕ → ℕ → Walked
walked_to s g m n = record { place = place_after s g (m + n); filled = n; left = length (active_of s g) - (m + n) }

-- The field that a walk from this place needs next, by its start and its length: while the piece that it stands in has places left, that piece's value
-- mask; else, between roots, the next root's origin, and in a node the node's child mask.
pub record Needed : Type 0 where
  pub start : ℕ
  pub bytes : ℕ

unfoldable pub needed_next : Place → Needed
needed_next p =
    when (ltb p.inside.from (places (edge_of p.inside.level)))
    (record { start = p.inside.value_mask; bytes = places (edge_of p.inside.level) / 8 })
    (when (eqb p.cursor.depth 0) (record { start = p.cursor.topology_pos; bytes = 12 })
    (when (eqb p.cursor.depth 1) (record { start = p.cursor.node5.pos; bytes = 4096 })
    (record { start = p.cursor.node4.pos; bytes = 512 })))

-- An answer w to a call from the place p with k slots: the place handed back starts from the same, so it tells the same grid; no more records than were
-- left; what is left in the answer, and in the place handed back, is what was left less these; and where slots are lent and records are left, at least
-- one is handed out.
pub record LeftBehind (p : Place) (k : ℕ) (w : Walked) : Type 0 where
  pub start : w.place.start ≡ p.start
  pub most : w.filled ≤ p.left
  pub left : w.left ≡ p.left - w.filled
  pub in_place : w.place.left ≡ w.left
  pub some : 0 < k → 0 < p.left → 0 < w.filled

-- A call over the bytes s from the place p, with the slots before and after it, and its answer.
pub record Promise (s : List ℕ) (p : Place) (before : Slots) (r : Result Walked ParseError) (after : Slots) : Type 0 where
  -- From a place of a grid over these bytes, the place after m of its records: the next records, as many as there are slots, stand in these from the
  -- first one on.
  pub reached :
      (asked : Asked) (name : List ℕ) (g : Grid) (m : ℕ) → gives g ≡ grid s asked name → m ≤ length (active_of s g) → p ≡ place_after s g m →
      (says_answer r ≡ gives (walked_to s g m (length (next_records s g m (slot_count before))))) × (after ≡ laid_from before 0 (next_records s g m (slot_count before)))
  -- From any place: some records, no more than there are slots, and all other slots are as they were; or 22, and all slots are.
  pub some-records :
      (w : Walked) → says_answer r ≡ gives w → (rs : List Record) × (length rs ≡ w.filled) × (w.filled ≤ slot_count before) × (after ≡ laid_from before 0 rs)
  pub refused : (k : ℕ) → says_answer r ≡ refuses k → (k ≡ 22) × (after ≡ before)
  -- What is left behind these records, also from any place.
  pub left_behind : (w : Walked) → says_answer r ≡ gives w → LeftBehind p (slot_count before) w
  -- Without slots nothing changes.
  pub no-slots : slot_count before ≡ 0 → says_answer r ≡ gives (record { place = p; filled = 0; left = p.left })
  -- Where slots are lent, records are left, and the field that is needed next lies past the file's end, it is 22.
  pub past_end : 0 < slot_count before → 0 < p.left → length s < (needed_next p).start + (needed_next p).bytes → says_answer r ≡ refuses 22
