-- In a piece: where handing out so many of its records from a place on ends, the place of the last of them tells.
use mathlib.Core.Path.{◌≡◌, refl, sym, ap, ◌∙◌}
use mathlib.Core.List.{List, map}
use mathlib.Core.Bool.{Bool, true, false}
use Prim.Native.Nat.{ℕ, zero, suc, ◌+◌, ◌-◌, ◌≤◌, ◌<◌}
use native.Mathlib.Nat.{add-zero, add-suc, suc-add}
use native.Mathlib.Numerals.{add-one}
use native.Mathlib.Omega.{arith}
use lib.ListN.{length, length-map, take}
use lib.Seq.{length-take-le, take_all}
use borrow.Author.Tests.{lt-ltb, lt-leb}
use Rattle.fields.specs.Parse.{when}
use Rattle.coordinates.specs.Coordinates.{places}
use Rattle.masks.specs.Masks.{ones_from, count_below}
use Rattle.masks.proofs.Laws.{ones_none, length-suc, count_add, count-suc, count-suc-one, count-le, count-strict}
use Rattle.forms.specs.declared.Coding.{Coding}
use Rattle.forms.specs.declared.Stored.{Stored}
use Rattle.forms.specs.declared.Stored.TheVariants.{Every, Active, Childless}
use Rattle.tree.specs.Active.{Piece, edge_of, record_at}
use Rattle.slots.specs.Inner.{standing}
use Rattle.bits.specs.Inner.{is_kept, hand_out}
use Rattle.records.specs.Inner.{is_inside, hand_piece}
use Rattle.slots.specs.declared.Inside.{Inside}
use Rattle.bits.proofs.Laws.{hand-full}
use Rattle.records.proofs.Pieces.{by-origin}
use Rattle.slots.proofs.Levels.{masked}
use Rattle.cursor.specs.Inner.{HeldPiece}
use Rattle.nth.specs.Inner.{stored_of, BehindOne}
use Rattle.place.specs.Inner.{stored_number, entered, at_place}
use Rattle.place.proofs.Own.{kept-number, keeps, active, in-room, own-from}

stored_back : (x : Stored) → stored_of (stored_number x) ≡ x
stored_back Every = refl
stored_back Active = refl
stored_back Childless = refl

module _ (s : List ℕ) (c : Coding) (q : Piece) (h : HeldPiece s c q) where
  abbrev size : ℕ
  size = places (edge_of q.level)

  abbrev ones-at : ℕ → Bool
  ones-at = active s c q h

  abbrev keep : ℕ → Bool
  keep = keeps s c q h

  -- From place a on the records up to the active place i places further on are handed out: the walk stands right behind that place.
  to_one :
      (i a j want : ℕ) → a + j ≤ size → i < j → ones-at (a + i) ≡ true → want ≡ length (ones_from ones-at a i) →
      (hand_out s c (suc want) (at_place s q a) j).inside ≡ at_place s q (suc (a + i))
  unfolding hand_out when is_kept
  to_one i a zero want l g e d = absurd (omega arith)
  to_one zero a (suc j) want l g e d =
      let f : ones-at a ≡ true = rw add-zero at e in
      let n : want ≡ 0 = d ∙ ap length (ones_none ones-at a) in
      let room = in-room s c q h a (omega arith) f in
      rw (f, lt-ltb _ _ room, n, hand-full s c 0 0 (standing (entered q) (suc a) (suc (count_below keep a))) j (omega arith), add-zero, count-suc-one keep a (h.kept a (omega arith) f))
  to_one (suc i) a (suc j) want l g e d = go (λ m. to_one i (suc a) j m (omega arith) (omega arith) (rw (suc-add, ← add-suc) e)) (ones-at a) refl
    where
      go : ((m : ℕ) → m ≡ length (ones_from ones-at (suc a) i) → (hand_out s c (suc m) (at_place s q (suc a)) j).inside ≡ at_place s q (suc (suc a + i))) → (b : Bool) → ones-at a ≡ b →
          (hand_out s c (suc want) (at_place s q a) (suc j)).inside ≡ at_place s q (suc (a + suc i))
      go later true f =
          let n : want ≡ suc (length (ones_from ones-at (suc a) i)) = omega (arith, d, rw f at (length-suc ones-at a i)) in
          let room = in-room s c q h a (omega arith) f in
          rw (f, lt-ltb _ _ room, n, ← count-suc-one keep a (h.kept a (omega arith) f), add-suc, ← suc-add) (later _ refl)
      go later false f =
          let n : want ≡ length (ones_from ones-at (suc a) i) = omega (arith, d, rw f at (length-suc ones-at a i)) in
          rw (kept-number q.values.stored s q.child q.value a, ← count-suc keep a, f, add-suc, ← suc-add) (later want n)

  -- from a place of the piece on
  module _ (a : ℕ) (l : a < size) where
    pub inside-there : true ≡ is_inside s (at_place s q a)
    inside-there = by-origin s (at_place s q a) h.held.value-mask.within h.held.child-mask.within (count-le keep a) (sym h.multiple)

    from-there : (want : ℕ) → hand_piece s c want (at_place s q a) ≡ hand_out s c want (at_place s q a) (size - a)
    unfolding hand_piece when
    from-there want = rw ((masked q.level).bits, lt-leb size a l, ← inside-there)

    -- so many of the records that are left
    abbrev pub left : ℕ
    left = length (ones_from ones-at a (size - a))

    pub left_is : count_below ones-at a + left ≡ count_below ones-at size
    left_is =
        let e : a + (size - a) ≡ size = omega arith in
        sym (rw e at (count_add ones-at a (size - a)))

    pub whole-there : (want : ℕ) → (hand_piece s c want (at_place s q a)).whole ≡ true
    whole-there want = rw (from-there want) (own-from s c q h (size - a) a want (omega arith)).1

    many-there : (want : ℕ) → length (hand_piece s c want (at_place s q a)).records ≡ length (take want (map (record_at s c q) (ones_from ones-at a (size - a))))
    many-there want = rw (from-there want) (ap length (own-from s c q h (size - a) a want (omega arith)).0)

    pub all_there : (want : ℕ) → left ≤ want → length (hand_piece s c want (at_place s q a)).records ≡ left
    all_there want g =
        let n = length-map (ones_from ones-at a (size - a)) (record_at s c q) in
        many-there want ∙ ap length (take_all want (map (record_at s c q) (ones_from ones-at a (size - a))) (omega (arith, n, g))) ∙ n

    pub some-there : (want : ℕ) → want ≤ left → length (hand_piece s c want (at_place s q a)).records ≡ want
    some-there want g =
        let n = length-map (ones_from ones-at a (size - a)) (record_at s c q) in
        many-there want ∙ length-take-le want (map (record_at s c q) (ones_from ones-at a (size - a))) (omega (arith, n, g))

    -- So behind the record with the number k of the piece, which is not before that place.
    pub stands-there : (k : ℕ) {r : Inside} → count_below ones-at a ≤ k → BehindOne s (at_place s q a) k r → r ≡ (hand_piece s c (k + 1 - count_below ones-at a) (at_place s q a)).inside
    stands-there k {r} g b = b.stands ∙ rw (stored_back q.values.stored, add-one p, add-one (count_below keep p), ← count-suc-one keep p kept, from-there, n) (sym to-it)
      where
        p : ℕ
        p = b.place

        below : p < size
        below = rw (masked q.level).bits at b.one.inside

        kept : keep p ≡ true
        kept = h.kept p below b.one.one

        not-before : p < a → ⊥
        not-before f = omega (arith, count-strict ones-at p a b.one.one f, b.one.number, g)

        i : ℕ
        i = p - a

        m : a + i ≡ p
        m = omega (arith, not-before)

        n : k + 1 - count_below ones-at a ≡ suc (length (ones_from ones-at a i))
        n = omega (arith, b.one.number, rw m at (count_add ones-at a i))

        to-it : (hand_out s c (suc (length (ones_from ones-at a i))) (at_place s q a) (size - a)).inside ≡ at_place s q (suc p)
        to-it = to_one i a (size - a) _ (omega arith) (omega (arith, m, below)) (rw m b.one.one) refl ∙ ap (λ (n : ℕ). at_place s q (suc n)) m
