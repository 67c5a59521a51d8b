-- What is handed out of a piece of a grid, from its first place on, are the piece's own records.
use mathlib.Core.Path.{◌≡◌, refl, sym, ap}
use mathlib.Core.List.{List, ◌∷◌, map}
use mathlib.Core.Bool.{Bool, true, false, not}
use Prim.Native.Nat.{ℕ, zero, suc, ◌+◌, ◌-◌, ◌*◌, ◌≤◌, ◌<◌}
use native.Mathlib.Nat.{le-div_iff_mul-le, suc-mul, sub-zero}
use native.Mathlib.Omega.{arith}
use lib.Dec.{leb, eqb}
use lib.ListN.{length, take}
use lib.Seq.{take-nil}
use borrow.Author.Tests.{lt-ltb, lt-leb}
use Rattle.fields.specs.Parse.{when}
use Rattle.coordinates.specs.Coordinates.{places}
use Rattle.masks.specs.Masks.{mask_bit, ones_from, count_below}
use Rattle.masks.proofs.Laws.{ones_none, ones-one, ones-zero, count-suc, count-suc-one}
use Rattle.runs.specs.Runs.{is_stored}
use Rattle.forms.specs.declared.Coding.{Coding}
use Rattle.forms.specs.declared.Stored.{Stored}
use Rattle.forms.specs.declared.Stored.TheVariants.{Every, Active, Childless}
use Rattle.values.proofs.Laws.{held_place, stored-place}
use Rattle.tree.specs.Active.{Record, Piece, edge_of, record_at, records_of}
use Rattle.slots.specs.Inner.{room_of}
use Rattle.bits.specs.Inner.{Handed, is_kept, record_here, nothing, cut_off, hand_out}
use Rattle.records.specs.Inner.{is_inside, hand_piece}
use Rattle.slots.specs.declared.Inside.{Inside}
use Rattle.records.proofs.Pieces.{by-origin}
use Rattle.slots.proofs.Levels.{masked}
use Rattle.cursor.specs.Inner.{HeldPiece}
use Rattle.place.specs.Inner.{stored_number, entered, at_place}

-- the number that a walk keeps tells which places are stored
pub kept-number :
    (x : Stored) (s : List ℕ) (child value p : ℕ) →
    when (eqb (stored_number x) 0) true (when (eqb (stored_number x) 1) (mask_bit s value p) (not (mask_bit s child p))) ≡ is_stored s x child value p
unfolding when is_stored
kept-number Every s child value p = refl
kept-number Active s child value p = refl
kept-number Childless s child value p = refl

-- so many of these records, and all that was needed lies in the file
abbrev Gives : ℕ → Handed → List Record → Type 0
Gives want g rs = (g.records ≡ take want rs) × (g.whole ≡ true)

module _ (s : List ℕ) (c : Coding) (q : Piece) (h : HeldPiece s c q) where
  abbrev pub keeps : ℕ → Bool
  keeps = is_stored s q.values.stored q.child q.value

  -- before place p
  abbrev at-place : ℕ → Inside
  at-place = at_place s q

  abbrev pub active : ℕ → Bool
  active = mask_bit s q.value

  -- at an active place the next stored value is the place's, and it lies in the file
  pub in-room : (p : ℕ) → p < places (edge_of q.level) → active p ≡ true → count_below keeps p < room_of s c q.values.start
  in-room p l e =
      let r = held_place h.held (omega (arith, (masked q.level).bits)) refl (h.kept p l e) in
      let w : 0 < c.width = omega (arith, h.held.width.0) in
      let m : suc (count_below keeps p) * c.width ≤ length s - q.values.start = omega (arith, suc-mul (count_below keeps p) c.width) in
      (le-div_iff_mul-le w).1 m

  own-record : (p : ℕ) → p < places (edge_of q.level) → active p ≡ true → record_here s c (at-place p) ≡ record_at s c q p
  unfolding record_here record_at
  own-record p l e = rw (stored-place c s q.child q.value q.values p (h.kept p l e))

  -- of the j places from p on
  pub own-from : (j p want : ℕ) → p + j ≤ places (edge_of q.level) → Gives want (hand_out s c want (at-place p) j) (map (record_at s c q) (ones_from active p j))
  unfolding hand_out when is_kept
  own-from zero p want l = rw (ones_none active p, take-nil want) (refl, refl)
  own-from (suc j) p zero l = (refl, refl)
  own-from (suc j) p (suc want) l = go (λ m. own-from j (suc p) m (omega arith)) (active p) refl
    where
      go : ((m : ℕ) → Gives m (hand_out s c m (at-place (suc p)) j) (map (record_at s c q) (ones_from active (suc p) j))) → (a : Bool) → active p ≡ a →
          Gives (suc want) (hand_out s c (suc want) (at-place p) (suc j)) (map (record_at s c q) (ones_from active p (suc j)))
      go later true e =
          let i : p < places (edge_of q.level) = omega arith in
          rw (e, lt-ltb _ _ (in-room p i e), ones-one active p j e, own-record p i e, ← count-suc-one keeps p (h.kept p i e))
          (ap (◌∷◌ (record_at s c q p)) (later want).0, (later want).1)
      go later false e =
          rw (kept-number q.values.stored s q.child q.value p, ← count-suc keeps p, e, ones-zero active p j e) (later (suc want))

  -- of all n places
  pub all-places :
      (want n : ℕ) →
      when (leb n 0) (nothing (entered q)) (when (is_inside s (entered q)) (hand_out s c want (entered q) (n - 0)) (cut_off (entered q))) ≡ hand_out s c want (entered q) n
  unfolding hand_out when
  all-places want zero = refl
  all-places want (suc n) =
      let i = by-origin s (entered q) h.held.value-mask.within h.held.child-mask.within (omega arith) (sym h.multiple) in
      rw (lt-leb (suc n) 0 (omega arith), ← i, sub-zero)

  -- So of the piece: as many of its own records as are wanted, and nothing that was needed lies past the end.
  pub own-records : (want : ℕ) → ((hand_piece s c want (entered q)).records ≡ take want (records_of s c q)) × ((hand_piece s c want (entered q)).whole ≡ true)
  unfolding hand_piece records_of ones_from
  own-records want = rw ((masked q.level).bits, all-places want (places (edge_of q.level))) (own-from (places (edge_of q.level)) 0 want (omega arith))
