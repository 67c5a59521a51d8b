-- Demand 3: any list of walk calls over one accepted grid. The theorem is `demand3` in proofs/Demand3.antt.
use Rattle.std.specs.Prelude.{ℕ, Result, Ok, Err, zero, suc, ◌+◌, ◌-◌, ◌<◌, min, ◌≡◌, ◌↔◌, true, pos, length, get_or, take}
use mathlib.Core.List.{List, [], ◌∷◌, Memᴰ, flat_map}
use Rattle.fields.specs.Answer.{gives}
use Rattle.fields.specs.Says.{says_answer}
use Rattle.fields.specs.declared.ParseError.{ParseError}
use Rattle.archive.specs.declared.Asked.{Asked}
use Rattle.coordinates.specs.declared.GlobalCoord.{GlobalCoord}
use Rattle.tree.specs.Active.{Record, covered_by}
use Rattle.slots.specs.Slots.{Slots, slot_count}
use Rattle.place.specs.declared.Place.{Place}
use Rattle.grid.specs.Grid as G
use Rattle.grid.specs.Grid.{Grid, active_of, spot_of}
use Rattle.grid.specs.declared.OpenedGrid.{OpenedGrid}
use Rattle.walk.specs.Walk.{Promise}
use Rattle.walk.specs.declared.Walked.{Walked}

-- A walk call, as it ended: the slots lent, the answer, and what the slots then hold.
pub record Call : Type 0 where
  pub before : Slots
  pub answer : Result Walked ParseError
  pub after : Slots

-- the records in the n slots from slot i on
unfoldable pub rows : Slots → ℕ → ℕ → List Record
rows t i zero = []
rows t i (suc n) =
    record { corner = (get_or t.x i (pos 0), get_or t.y i (pos 0), get_or t.z i (pos 0)); level = get_or t.level i 0; value = get_or t.value i 0 } ∷ rows t (suc i) n

-- what a call hands out: the records in its filled slots as it ends; none where it is refused
abbrev pub in_slots : Result Walked ParseError → Slots → List Record
in_slots (Ok w) t = rows t 0 w.filled
in_slots (Err e) t = []

abbrev pub handed_out : Call → List Record
handed_out c = in_slots c.answer c.after

-- what holds of the place that an answer hands back; a refused call hands none back
abbrev pub HandsBack : Result Walked ParseError → (Place → Type 0) → Type 0 → Type 0
HandsBack (Ok w) holds none = holds w.place
HandsBack (Err e) holds none = none

-- Calls over the bytes s, the first from the place p, each later one from the place that the call before it handed back.
abbrev pub Calls : List ℕ → Place → List Call → Type 0
Calls s p [] = Unit {0}
Calls s p (c ∷ cs) = Promise s p c.before c.answer c.after × HandsBack c.answer (λ q. Calls s q cs) (cs ≡ [])

-- all slots lent
unfoldable pub slots_lent : List Call → ℕ
slots_lent [] = 0
slots_lent (c ∷ cs) = slot_count c.before + slots_lent cs

-- Of each call, when n records are listed and `done` of them are handed out before it: it is not refused; with k slots it hands out the smaller of k
-- and what was left before it; and the number left that it reports is the length less all handed out so far.
abbrev pub Reports : ℕ → ℕ → List Call → Type 0
Reports n done [] = Unit {0}
Reports n done (c ∷ cs) =
    ((w : Walked) × (says_answer c.answer ≡ gives w) × (w.filled ≡ min (slot_count c.before) (n - done)) × (length (handed_out c) ≡ w.filled)
    × (w.left ≡ n - (done + w.filled)))
    × Reports n (done + length (handed_out c)) cs

-- What demand 3 says of an opened grid o and these calls: with the grid's active list,
pub record Demand3 (s : List ℕ) (asked : Asked) (name : List ℕ) (o : OpenedGrid) (cs : List Call) : Type 0 where
  pub grid : Grid
  pub accepted : gives grid ≡ G.grid s asked name
  -- whose length opening the grid gave,
  pub counted : o.active_count ≡ length (active_of s grid)
  -- the records handed out, joined in call order, are the first n of the list, n being the smaller of its length and the sum of all slots lent;
  pub records : flat_map handed_out cs ≡ take (min o.active_count (slots_lent cs)) (active_of s grid)
  -- no call is refused, and each hands out and reports what it should;
  pub each : Reports o.active_count 0 cs
  -- in the list no two records cover a common voxel,
  pub apart :
      (v : GlobalCoord) (i j : ℕ) (d : Record) → i < j → j < length (active_of s grid) → covered_by (get_or (active_of s grid) i d) v ≡ true →
      covered_by (get_or (active_of s grid) j d) v ≡ true → ⊥
  -- and a voxel is covered exactly when the masks make it active.
  pub covered : (v : GlobalCoord) → ((r : Record) × Memᴰ r (active_of s grid) × (covered_by r v ≡ true)) ↔ ((spot_of s grid v).active ≡ true)
