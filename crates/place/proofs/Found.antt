-- The ways out of the functions that find a place by counting.
use mathlib.Core.Path.{◌≡◌, refl, sym, ap, subst, ◌∙◌}
use mathlib.Core.List.{List, [], ◌∷◌}
use mathlib.Core.Bool.{Bool, true, false, true≢false}
use Prim.Native.Nat.{ℕ, ◌+◌, ◌-◌, ◌*◌, ◌≤◌, ◌<◌}
use native.Mathlib.Nat.{sub-zero}
use native.Mathlib.Omega.{arith}
use lib.Dec.{leb}
use lib.ListN.{length}
use borrow.Author.Tests.{le-leb}
use Rattle.std.proofs.Common.{Option, None, Some, Ok}
use Rattle.fields.specs.Parse.{when}
use Rattle.half.specs.Inner.{IsWidth}
use Rattle.coordinates.specs.Coordinates.{places}
use Rattle.masks.specs.Masks.{mask_bit, ones_from, count_below}
use Rattle.masks.specs.Inner.{IsMask}
use Rattle.masks.proofs.Laws.{count-le, count-mono}
use Rattle.forms.specs.declared.Coding.{Coding}
use Rattle.tree.specs.Active.{Piece, edge_of}
use Rattle.tree.specs.Inner.{record_count, leaf_count}
use Rattle.tree.proofs.Counting.{total, total-append}
use Rattle.slots.specs.Inner.{mask_bytes}
use Rattle.bits.specs.Inner.{nothing, cut_off}
use Rattle.records.specs.Inner.{is_inside, hand_piece}
use Rattle.slots.specs.declared.Inside.{Inside}
use Rattle.bits.proofs.Laws.{hand-full}
use Rattle.records.proofs.Pieces.{inside_back}
use Rattle.slots.proofs.Levels.{masked}
use Rattle.cursor.specs.Inner.{Stop, to_come, HeldPiece}
use Rattle.cursor.specs.declared.Cursor.{Cursor}
use Rattle.skip.specs.Inner.{before, skip_from}
use Rattle.skip.proofs.Laws.{leaves_in, Stops, skip-stops}
use Rattle.skip.proofs.Few.{cursor-leaves}
use Rattle.nth.specs.Inner.{HasOne, BehindOne}
use Rattle.place.specs.Inner.{entered, at_place, listing_from, hand_on, moved, stand_of, behind_of, Stands, behind, within, EndsAt, Steps}
use Rattle.place.specs.declared.Place.{Place}
use Rattle.place.proofs.Piece.{inside-there, left_is, whole-there, all_there, some-there, stands-there}
use Rattle.place.proofs.Cut.{course-full}
use Rattle.place.proofs.Counted.{leads-on}

-- a number of a record, among all of a piece, is small
pub small-number : (s : List ℕ) (w : Inside) (k : ℕ) → HasOne s w k → k < 32768
small-number s w k h = omega (arith, h.more, count-le (mask_bit s w.value_mask) (8 * mask_bytes w.level), (masked w.level).small)

-- Pieces are passed up to one that does not fit: leaves enough may be passed, so it lists more records than are left to pass.
module _ (s : List ℕ) (c : Coding) (wide : IsWidth c.width) (x : Cursor) (small : x.roots_left < 4294967296) (m : ℕ) {q : Piece} {y : Cursor} {n k : ℕ}
    (e : before (record { piece = q; behind = y }) n k ≡ skip_from s c m 18446744073709551615 x) where
  abbrev here : Stop
  here = record { piece = q; behind = y }

  stops : Stops s c m 18446744073709551615 x here n k
  stops = skip-stops s c wide here n k x m 18446744073709551615 e

  more-there : n < record_count s q
  unfolding total
  more-there =
      let rest = (to_come s c y).items in
      let sum = total-append (λ (t : Stop). leaf_count t.piece) stops.passed (here ∷ rest) in
      let all : leaves_in (to_come s c x).items ≡ leaves_in stops.passed + (leaf_count q + leaves_in rest) = ap leaves_in stops.items ∙ sum in
      let fits : leaf_count q ≤ k = omega (arith, all, stops.leaves, cursor-leaves s c x) in
      let over : record_count s q ≤ n → ⊥ = λ l. stops.misfit l fits in
      omega (arith, over)

  pub has_there : {w : Inside} → w ≡ entered q → HasOne s w n
  has_there d =
      rw d record { child = stops.held.held.child-mask; value = stops.held.held.value-mask; more = rw (masked q.level).bits more-there }

  pub behind-there : {w r : Inside} → w ≡ entered q → BehindOne s w n r → Some (y, r) ≡ behind_of s c (skip_from s c m 18446744073709551615 x)
  unfolding ones_from
  behind-there d b =
      let l : 0 < places (edge_of q.level) = omega (arith, more-there, count-le (mask_bit s q.value) (places (edge_of q.level))) in
      let f = stands-there s c q stops.held 0 l n (omega arith) (rw d at b) in
      ap (λ (w : Inside). Some (y, w)) (f ∙ ap (λ (j : ℕ). (hand_piece s c j (entered q)).inside) (sub-zero (n + 1))) ∙ ap (behind_of s c) e

-- The records of the piece that a walk stands in: how many it has passed, and how many are left of it.
abbrev pub passed_in : List ℕ → Inside → ℕ
passed_in s w = count_below (mask_bit s w.value_mask) w.from

abbrev pub left_in : List ℕ → Inside → ℕ
left_in s w = count_below (mask_bit s w.value_mask) (8 * mask_bytes w.level) - passed_in s w

-- Words that can be those of a walk in a piece: its masks lie in the file, and its records can be counted.
module _ (s : List ℕ) (w : Inside) {n : ℕ} (e : n ≡ mask_bytes w.level) where
  pub masks-there : true ≡ is_inside s w → IsMask s w.value_mask n × IsMask s w.child_mask n
  masks-there f =
      let i = inside_back s w (sym f) in
      let m = masked w.level in
      rw e (record { within = i.value; words = m.words; small = m.small }, record { within = i.child; words = m.words; small = m.small })

  module _ {passed count : ℕ} (d : passed ≡ passed_in s w) (g : count ≡ count_below (mask_bit s w.value_mask) (8 * n)) where
    pub passed-fewer : w.from < 8 * n → passed ≤ count
    passed-fewer l = rw (d, g) (count-mono (mask_bit s w.value_mask) w.from (8 * n) (omega arith))

    pub left_there : count - passed ≡ left_in s w
    left_there = rw (d, g, e)

    pub has_here : (k : ℕ) → true ≡ is_inside s w → 0 < k → k ≤ count - passed → HasOne s w (passed + (k - 1))
    has_here k f i l =
        let m = masks-there f in
        record { child = rw e at m.1; value = rw e at m.0; more = rw e at (let h : passed + (k - 1) < count_below (mask_bit s w.value_mask) (8 * n) = omega (arith, g, l, i) in h) }

record InPiece (s : List ℕ) (c : Coding) (k : ℕ) (w : Inside) : Type 0 where
  inside : true ≡ is_inside s w
  whole : (hand_piece s c k w).whole ≡ true
  all : left_in s w ≤ k → length (hand_piece s c k w).records ≡ left_in s w
  enough : k ≤ left_in s w → length (hand_piece s c k w).records ≡ k
  stands : 0 < k → {r : Inside} → BehindOne s w (passed_in s w + (k - 1)) r → r ≡ (hand_piece s c k w).inside

module _ (s : List ℕ) (c : Coding) (k : ℕ) where
  at_piece : (q : Piece) (p : ℕ) → HeldPiece s c q → p < places (edge_of q.level) → InPiece s c k (at_place s q p)
  at_piece q p h l =
      let n = left_is s c q h p l in
      let e = ap (count_below (mask_bit s q.value)) (masked q.level).bits in
      record {
        inside = inside-there s c q h p l;
        whole = whole-there s c q h p l k;
        all = λ g. all_there s c q h p l k (omega (arith, e, n)) ∙ omega (arith, e, n);
        enough = λ g. some-there s c q h p l k (omega (arith, e, n));
        stands = λ i b.
            let a = count_below (mask_bit s q.value) p in
            let f : a + (k - 1) + 1 - a ≡ k = omega arith in
            stands-there s c q h p l (a + (k - 1)) (omega arith) b ∙ ap (λ (j : ℕ). (hand_piece s c j (at_place s q p)).inside) f;
      }

  in-piece : (w : Inside) → Stands s c w → w.from < 8 * mask_bytes w.level → InPiece s c k w
  in-piece w (behind l) g = absurd (omega arith)
  in-piece w (within q p h e) g = subst (InPiece s c k) (sym e) (at_piece q p h (rw (masked q.level).bits at (rw e at g)))

-- From where a walk stands.
module _ (s : List ℕ) (c : Coding) (wide : IsWidth c.width) (k : ℕ) (x : Cursor) (w : Inside) {n : ℕ} (e : n ≡ mask_bytes w.level) where
  -- j records are handed out of its piece, and the others are counted
  ends_by :
      {j : ℕ} {b : Option (Cursor × Inside)} → x.roots_left < 4294967296 → (hand_piece s c k w).whole ≡ true → length (hand_piece s c k w).records ≡ j → j < k →
      b ≡ behind_of s c (skip_from s c (k - j - 1) 18446744073709551615 x) → k ≤ length (hand_on s c k x w).records → b ≡ Some (stand_of (hand_on s c k x w))
  ends_by small f z l d m =
      d ∙ ap (λ (j : ℕ). behind_of s c (skip_from s c (k - j - 1) 18446744073709551615 x)) (sym z)
      ∙ leads-on s c wide x small k (hand_piece s c k w) f (rw z l) m

  -- behind all places of a piece
  past : 8 * mask_bytes w.level ≤ w.from → hand_piece s c k w ≡ nothing w
  unfolding hand_piece when
  past h = rw (le-leb _ _ h)

  pub ends-past : {b : Option (Cursor × Inside)} → x.roots_left < 4294967296 → 0 < k → 8 * n ≤ w.from → b ≡ behind_of s c (skip_from s c (k - 1) 18446744073709551615 x) → EndsAt s c k x w b
  ends-past small l g d st m =
      let h : 8 * mask_bytes w.level ≤ w.from = omega (arith, e, g) in
      let f = past h in
      ends_by small (ap (λ h. h.whole) f) (ap (λ h. length h.records) f) l (d ∙ ap (λ (j : ℕ). behind_of s c (skip_from s c (j - 1) 18446744073709551615 x)) (sym (sub-zero k))) m

  -- in a piece
  module _ (g : w.from < 8 * n) where
    there : Stands s c w → InPiece s c k w
    there st = in-piece s c k w st (omega (arith, e, g))

    pub ends-outside : false ≡ is_inside s w → EndsAt s c k x w None
    ends-outside f st m = absurd (true≢false ((there st).inside ∙ sym f))

    module _ {passed left : ℕ} (d : passed ≡ passed_in s w) (j : left ≡ left_in s w) where
      pub ends-later : {b : Option (Cursor × Inside)} → x.roots_left < 4294967296 → left < k → b ≡ behind_of s c (skip_from s c (k - left - 1) 18446744073709551615 x) → EndsAt s c k x w b
      ends-later small l h st m = ends_by small (there st).whole ((there st).all (omega (arith, j, l)) ∙ sym j) l h m

      pub ends-here : 0 < k → k ≤ left → {r : Inside} → BehindOne s w (passed + (k - 1)) r → EndsAt s c k x w (Some (x, r))
      ends-here i l b st m =
          let h = there st in
          let n = h.enough (omega (arith, j, l)) in
          rw (course-full s c k (hand_piece s c k w) x (listing_from s c x) n) (ap (λ (w : Inside). Some (x, w)) (h.stands i (rw d at b)))

-- where nothing is wanted the walk stays
module _ (s : List ℕ) (c : Coding) (x : Cursor) (w : Inside) where
  none-handed : (hand_piece s c 0 w).records ≡ [] × ((hand_piece s c 0 w).inside ≡ w)
  unfolding hand_piece when
  none-handed = rw (hand-full s c 0 0 w (8 * mask_bytes w.level - w.from) (omega arith)) (go (leb (8 * mask_bytes w.level) w.from) (is_inside s w))
    where
      go : (a b : Bool) → ((when a (nothing w) (when b (nothing w) (cut_off w))).records ≡ []) × ((when a (nothing w) (when b (nothing w) (cut_off w))).inside ≡ w)
      go true b = (refl, refl)
      go false true = (refl, refl)
      go false false = (refl, refl)

  pub stays : stand_of (hand_on s c 0 x w) ≡ (x, w)
  stays = ap stand_of (course-full s c 0 (hand_piece s c 0 w) x (listing_from s c x) (ap length none-handed.0)) ∙ ap (λ (w : Inside). (x, w)) none-handed.1

-- A step where nothing is to be passed.
module _ (s : List ℕ) (p : Place) {k : ℕ} where
  pub steps-none : k ≡ 0 → Steps s p k (Ok p)
  steps-none z =
      let f = stays s p.start.coding p.cursor p.inside in
      subst (λ (k : ℕ). Steps s p k (Ok p)) (sym z) record {
        reached = λ w. ap (λ (q : Place). Ok q) (λ i. moved p (sym (sub-zero p.left) i) (sym f i).0 (sym f i).1);
        any = λ i. moved p (sym (sub-zero p.left) i) p.cursor p.inside;
      }
