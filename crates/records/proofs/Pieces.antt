-- A piece: by which tests words are those of a walk in it, and what its reader may then ask.
use mathlib.Core.Path.{◌≡◌, refl, sym}
use mathlib.Core.List.{List}
use mathlib.Core.Bool.{Bool, true, false}
use Prim.Native.Nat.{ℕ, ◌+◌, ◌-◌, ◌*◌, ◌/◌, ◌≤◌, ◌<◌}
use native.Mathlib.Nat.{add-zero}
use lib.ListN.{length}
use borrow.Author.Tests.{lt-leb, le-leb, leb-true}
use Rattle.fields.specs.Parse.{when}
use Rattle.forms.specs.declared.Coding.{Coding}
use Rattle.half.specs.Inner.{IsWidth}
use Rattle.coordinates.specs.Coordinates.{aligned}
use Rattle.coordinates.proofs.Axis.{and_both}
use Rattle.tree.specs.Active.{side_of, edge_of}
use Rattle.slots.specs.Slots.{Slots, laid_from}
use Rattle.slots.specs.Inner.{mask_bytes, Readable}
use Rattle.bits.specs.Inner.{hand_out, Fills}
use Rattle.records.specs.Inner.{is_inside, hand_piece, Masks}
use Rattle.slots.specs.declared.Inside.{Inside}
use Rattle.bits.specs.declared.Run.{Run}
use Rattle.slots.proofs.Levels.{masked}

-- Words that are a walk's in a piece: what they have, and by which test they are none.
module _ (s : List ℕ) (w : Inside) where
  abbrev bytes : ℕ
  bytes = mask_bytes w.level

  pub no-value-mask : length s < w.value_mask + bytes → false ≡ is_inside s w
  unfolding is_inside
  no-value-mask h = rw (lt-leb _ _ h)

  pub by-origin :
      {t : Bool} → w.value_mask + bytes ≤ length s → w.child_mask + bytes ≤ length s → w.number ≤ w.from → t ≡ aligned (edge_of w.level * side_of w.level) w.origin → t ≡ is_inside s w
  unfolding is_inside
  by-origin a b h e = rw (le-leb _ _ a, le-leb _ _ b, le-leb _ _ h) e

  pub record IsInside : Type 0 where
    pub value : w.value_mask + bytes ≤ length s
    pub child : w.child_mask + bytes ≤ length s
    pub number : w.number ≤ w.from
    pub multiple : aligned (edge_of w.level * side_of w.level) w.origin ≡ true

  pub inside_back : is_inside s w ≡ true → IsInside
  unfolding is_inside
  inside_back e =
      let a = and_both _ _ e in
      let b = and_both _ _ a.1 in
      let d = and_both _ _ b.1 in
      record { value = leb-true _ _ a.0; child = leb-true _ _ b.0; number = leb-true _ _ d.0; multiple = d.1 }

-- A piece: its places are passed, or the words are no walk's in it, or its records are handed out.
module _ (s : List ℕ) (c : Coding) (want slot : ℕ) (w : Inside) (t : Slots) where
  pub piece-passed : 8 * mask_bytes w.level ≤ w.from → Fills slot (hand_piece s c want w) t t (record { inside = w; filled = slot; whole = true })
  unfolding hand_piece when laid_from
  piece-passed h = rw (le-leb _ _ h) record { inside = refl; filled = sym (add-zero slot); whole = refl; slots = refl }

  module _ (some_left : w.from < 8 * mask_bytes w.level) where
    pub piece-none : is_inside s w ≡ false → Fills slot (hand_piece s c want w) t t (record { inside = w; filled = slot; whole = false })
    unfolding hand_piece when laid_from
    piece-none e = rw (lt-leb _ _ some_left, e) record { inside = refl; filled = sym (add-zero slot); whole = refl; slots = refl }

    pub piece-there :
        {n : ℕ} {t' : Slots} {r : Run} → is_inside s w ≡ true → n ≡ mask_bytes w.level → Fills slot (hand_out s c want w (8 * n - w.from)) t t' r → Fills slot (hand_piece s c want w) t t' r
    unfolding hand_piece when
    piece-there e d f = rw (lt-leb _ _ some_left, e, ← d) f

-- what its reader asks
module _ (s : List ℕ) (w : Inside) (h : IsInside s w) where
  pub piece-readable : (c : Coding) {r : ℕ} → IsWidth c.width → r ≡ length s - w.start → Readable s c (r / c.width) w
  piece-readable c b e = record { width = b; values = rw e; multiple = h.multiple; number = h.number }

  pub piece-masks : {n : ℕ} → n ≡ mask_bytes w.level → Masks s n w
  piece-masks {n} e =
      let m = masked w.level in
      rw e record {
        value = record { within = h.value; words = m.words; small = m.small };
        child = record { within = h.child; words = m.words; small = m.small };
        places = m.bits;
      }
