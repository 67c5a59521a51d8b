-- Inner matter: only contracts of inner functions cite it, and nothing here has to be believed.
-- What the places that are left of a piece hand out, whatever the words of the walk are.
-- That for a piece of a grid these are the piece's own records is proved above, in the crate `place` (proofs/Own.antt).
use Rattle.std.specs.Prelude.{◌≡◌, List, ◌++◌, Bool, true, ◌&&◌, ℕ, ◌+◌, ◌-◌, ◌*◌, eqb, leb, length}
use Rattle.fields.specs.Parse.{when}
use Rattle.forms.specs.declared.Coding.{Coding}
use Rattle.coordinates.specs.Coordinates.{aligned, places}
use Rattle.tree.specs.Active.{side_of, edge_of}
use Rattle.masks.specs.Inner.{IsMask}
use Rattle.slots.specs.Inner.{mask_bytes, standing, run_of}
use Rattle.bits.specs.Inner.{Handed, nothing, cut_off, hand_out}
use Rattle.slots.specs.declared.Inside.{Inside}
use Rattle.bits.specs.declared.Bits.{Bits}

-- one part, then another
abbrev pub follow : Handed → Handed → Handed
follow h g = record { records = h.records ++ g.records; inside = g.inside; whole = g.whole }

-- the records of the next n places, if all are active
abbrev pub handed_run : List ℕ → Coding → Inside → ℕ → Handed
handed_run s c w n = record { records = run_of s c w n; inside = standing w (w.from + n) (w.number + n); whole = true }

-- Whether words can be those of a walk in a piece: the masks lie in the file, the piece's origin is a multiple of its span, and no more stored
-- places are passed than places.
unfoldable pub is_inside : List ℕ → Inside → Bool
is_inside s w =
    leb (w.value_mask + mask_bytes w.level) (length s) && (leb (w.child_mask + mask_bytes w.level) (length s)
    && (leb w.number w.from && aligned (edge_of w.level * side_of w.level) w.origin))

-- of the places that are left of the piece
unfoldable pub hand_piece : List ℕ → Coding → ℕ → Inside → Handed
hand_piece s c want w =
    when (leb (8 * mask_bytes w.level) w.from) (nothing w)
    (when (is_inside s w) (hand_out s c want w (8 * mask_bytes w.level - w.from)) (cut_off w))

-- both masks of n bytes lie in the file, and have a bit for each place of the piece
pub record Masks (s : List ℕ) (n : ℕ) (w : Inside) : Type 0 where
  pub value : IsMask s w.value_mask n
  pub child : IsMask s w.child_mask n
  pub places : 8 * n ≡ places (edge_of w.level)

-- whether a word has 64 active places, and there are slots and values for them
unfoldable pub is_full : Bits → ℕ → ℕ → ℕ → Bool
is_full b room slot limit = eqb b.ones 18446744073709551615 && (leb (slot + 64) limit && leb (b.inside.number + 64) room)

unfoldable pub is_leaf : Bits → ℕ → Bool
is_leaf b room = eqb b.inside.level 0 && (leb b.inside.stored 1 && leb (b.inside.number + b.left) room)
