-- Inner matter: only contracts of inner functions cite it, and nothing here has to be believed.
-- What handing out the records of a piece comes to, place by place, wherever in it a walk stands and whatever its words are; and the places of one
-- word of its masks.
use Rattle.std.specs.Prelude.{◌≡◌, List, [], ◌∷◌, Bool, true, false, not, cond, ℕ, zero, suc, ◌+◌, ◌-◌, ◌*◌, ◌/◌, ◌^◌, ◌≤◌, ◌<◌, eqb, ltb, length}
use Rattle.fields.specs.Parse.{when}
use Rattle.masks.specs.Masks.{digit, mask_bit, count_below}
use Rattle.forms.specs.declared.Coding.{Coding}
use Rattle.half.specs.Half.{stored_value}
use Rattle.coordinates.specs.Coordinates.{index, global_of, places}
use Rattle.tree.specs.Active.{Record, side_of, edge_of}
use Rattle.slots.specs.Slots.{Slots, laid_from}
use Rattle.slots.specs.Inner.{room_of, standing}
use Rattle.slots.specs.declared.Inside.{Inside}
use Rattle.bits.specs.declared.Bits.{Bits}
use Rattle.bits.specs.declared.Run.{Run}

-- whether place p is stored: all are, or the active ones, or those without a child
unfoldable pub is_kept : List ℕ → Inside → ℕ → Bool
is_kept s w p = when (eqb w.stored 0) true (when (eqb w.stored 1) (mask_bit s w.value_mask p) (not (mask_bit s w.child_mask p)))

-- the record of the next place, if it is active
unfoldable pub record_here : List ℕ → Coding → Inside → Record
record_here s c w = record {
  corner = global_of (edge_of w.level) (side_of w.level) w.origin (index w.from);
  level = w.level;
  value = stored_value s c.width (w.start + w.number * c.width);
}

-- What is handed out: records, where the walk stands behind them, and whether all that was needed lies in the file.
pub record Handed : Type 0 where
  pub records : List Record
  pub inside : Inside
  pub whole : Bool

abbrev pub nothing : Inside → Handed
nothing w = record { records = []; inside = w; whole = true }

abbrev pub cut_off : Inside → Handed
cut_off w = record { records = []; inside = w; whole = false }

abbrev pub and_then : Record → Handed → Handed
and_then r h = record { records = r ∷ h.records; inside = h.inside; whole = h.whole }

-- Of the next j places: no more records than are wanted, and none once a value lies past the end. Where nothing is wanted the walk stays.
unfoldable pub hand_out : List ℕ → Coding → ℕ → Inside → ℕ → Handed
hand_out s c want w zero = nothing w
hand_out s c zero w (suc j) = nothing w
hand_out s c (suc want) w (suc j) =
    when (mask_bit s w.value_mask w.from)
    (when (ltb w.number (room_of s c w.start))
    (and_then (record_here s c w) (hand_out s c want (standing w (suc w.from) (suc w.number)) j))
    (cut_off w))
    (hand_out s c (suc want) (standing w (suc w.from) (w.number + cond (is_kept s w w.from) 1 0)) j)

-- what the code's answer says, the slots from `slot` on being filled
pub record Fills (slot : ℕ) (h : Handed) (before after : Slots) (r : Run) : Type 0 where
  pub inside : r.inside ≡ h.inside
  pub filled : r.filled ≡ slot + length h.records
  pub whole : r.whole ≡ h.whole
  pub slots : after ≡ laid_from before slot h.records

-- b's lowest bits are those of the j places from p on, and it has no others
pub record AreBits (f : ℕ → Bool) (p j b : ℕ) : Type 0 where
  pub below : b < 2 ^ j
  pub bits : (q : ℕ) → q < j → digit b q ≡ f (p + q)

-- the places are the piece's, and have these bits in both masks
pub record InWord (s : List ℕ) (b : Bits) : Type 0 where
  pub word : b.left ≤ 64
  pub places : b.inside.from + b.left ≤ places (edge_of b.inside.level)
  pub value-bits : AreBits (mask_bit s b.inside.value_mask) b.inside.from b.left b.ones
  pub child-bits : AreBits (mask_bit s b.inside.child_mask) b.inside.from b.left b.children

abbrev pub hand_word : List ℕ → Coding → ℕ → Bits → Handed
hand_word s c want b = hand_out s c want b.inside b.left

-- so many places of a word, and stored values, that no sum is lost
pub record SumsFit (b : Bits) : Type 0 where
  pub word : b.left ≤ 64
  pub places : b.inside.from + b.left ≤ 32768
  pub number : b.inside.number ≤ b.inside.from

-- how many of z places that are not active are stored, the child mask's bits from the first on being those of b
unfoldable pub skipped : ℕ → ℕ → ℕ → ℕ
skipped stored b z = when (eqb stored 0) z (when (eqb stored 1) 0 (z - count_below (digit b) z))

-- a word behind p places, the next stored value having number k
abbrev pub past : Bits → ℕ → ℕ → Bits
past b p k = record { inside = standing b.inside (b.inside.from + p) k; left = b.left - p; ones = b.ones / 2 ^ p; children = b.children / 2 ^ p }

-- behind the next z places, none of which is active
abbrev pub shifted : Bits → ℕ → Bits
shifted b z = past b z (b.inside.number + skipped b.inside.stored b.children z)

abbrev pub passed : Bits → ℕ → Inside
passed b z = (shifted b z).inside

-- behind the next n places, all active
abbrev pub past_active : Bits → ℕ → Bits
past_active b n = past b n (b.inside.number + n)

-- the number of the next stored value behind p places, k of them active: all are stored, or the active ones
unfoldable pub number_in : Inside → ℕ → ℕ → ℕ
number_in w p k = when (eqb w.stored 0) (w.number + p) (w.number + k)

-- a leaf's places, stored all or where active, with values in the file
pub record LeafWord (room : ℕ) (b : Bits) : Type 0 where
  pub level : b.inside.level ≡ 0
  pub stored : b.inside.stored ≤ 1
  pub values : b.inside.number + b.left ≤ room
