-- What a walk looks at behind a cursor's stops: where their pieces are the same in two files, it hands out the same records and stands at the same place.
use mathlib.Core.Path.{◌≡◌, refl, sym, ap, ap₂, ◌∙◌}
use mathlib.Core.List.{List, [], ◌∷◌, map}
use mathlib.Core.Bool.{Bool, true, false, not, cond, ◌&&◌}
use Prim.Native.Nat.{ℕ, zero, suc, ◌+◌, ◌-◌, ◌*◌, ◌≤◌, ◌<◌}
use native.Mathlib.Omega.{arith}
use lib.Dec.{leb, ltb, eqb}
use lib.ListN.{length}
use Rattle.fields.specs.Parse.{when}
use Rattle.fields.proofs.Agree.{part, Each}
use Rattle.coordinates.specs.Coordinates.{places, index, global_of}
use Rattle.half.specs.Inner.{IsWidth}
use Rattle.masks.specs.Masks.{mask_bit, ones_from, count_below}
use Rattle.masks.proofs.Laws.{count-suc, count-suc-one, count-strict}
use Rattle.masks.proofs.Agree.{bit-same}
use Rattle.forms.specs.declared.Coding.{Coding}
use Rattle.values.proofs.Laws.{in-run}
use Rattle.values.proofs.Agree.{stored-value-same}
use Rattle.tree.specs.Active.{Piece, edge_of, side_of}
use Rattle.tree.specs.Inner.{record_count}
use Rattle.tree.proofs.Agree.{SamePiece, mask_bytes, mask-places, records-same}
use Rattle.slots.specs.Inner.{room_of}
use Rattle.bits.specs.Inner.{Handed, is_kept, record_here, and_then, hand_out, nothing, cut_off}
use Rattle.records.specs.Inner.{is_inside, hand_piece}
use Rattle.slots.proofs.Levels.{masked}
use Rattle.cursor.specs.Inner.{HeldPiece, Stop, to_come}
use Rattle.cursor.specs.declared.Cursor.{Cursor}
use Rattle.place.specs.Inner.{Course, stored_number, entered, at_place, course, join, stopped, listing}
use Rattle.place.proofs.Own.{kept-number, keeps}
use Rattle.place.proofs.Listing.{many, first-stop}

-- A piece that can be read from, and is the same in both files.
module _ (s t : List ℕ) (c : Coding) (q : Piece) (held : HeldPiece s c q) (same : SamePiece s t c q) (long : length s ≡ length t) where
  abbrev kept : ℕ → Bool
  kept = keeps s c q held

  in-mask : (p : ℕ) → p < places (edge_of q.level) → p < 8 * mask_bytes q.level
  in-mask p l = rw mask-places at l

  -- the record of an active place
  here-same : (p : ℕ) → p < places (edge_of q.level) → mask_bit s q.value p ≡ true → record_here s c (at_place s q p) ≡ record_here t c (at_place s q p)
  unfolding record_here
  here-same p l e =
      let n = count_below kept (8 * mask_bytes q.level) in
      let k = count-strict kept p (8 * mask_bytes q.level) (held.kept p l e) (in-mask p l) in
      let i = in-run q.values.start (count_below kept p) n c.width (q.values.start + n * c.width) k (omega arith) in
      ap (λ (v : ℕ). record { corner = global_of (edge_of q.level) (side_of q.level) q.origin (index p); level = q.level; value = v })
      (stored-value-same c.width held.held.width (part same.1.run (omega arith) i))

  -- whether a place is stored, and the number of the next stored value behind it
  kept_same : (p : ℕ) → p < places (edge_of q.level) → is_kept s (at_place s q p) p ≡ is_kept t (at_place s q p) p
  unfolding is_kept
  kept_same p l =
      ap₂ (λ (a b : Bool). when (eqb (stored_number q.values.stored) 0) true (when (eqb (stored_number q.values.stored) 1) a (not b)))
      (bit-same (mask_bytes q.level) p same.1.value-mask (in-mask p l)) (bit-same (mask_bytes q.level) p same.1.child-mask (in-mask p l))

  next-number : (p : ℕ) → count_below kept p + cond (is_kept s (at_place s q p) p) 1 0 ≡ count_below kept (suc p)
  unfolding is_kept
  next-number p = rw (kept-number q.values.stored s q.child q.value p, ← count-suc kept p)

  -- of the j places from p on
  out-same : (j p want : ℕ) → p + j ≤ places (edge_of q.level) → hand_out s c want (at_place s q p) j ≡ hand_out t c want (at_place s q p) j
  unfolding hand_out when
  out-same zero p want l = refl
  out-same (suc j) p zero l = refl
  out-same (suc j) p (suc want) l = go (λ m. out-same j (suc p) m (omega arith)) (mask_bit s q.value p) refl
    where
      i : p < places (edge_of q.level)
      i = omega arith

      bits : mask_bit s q.value p ≡ mask_bit t q.value p
      bits = bit-same (mask_bytes q.level) p same.1.value-mask (in-mask p i)

      go : ((m : ℕ) → hand_out s c m (at_place s q (suc p)) j ≡ hand_out t c m (at_place s q (suc p)) j) → (a : Bool) → mask_bit s q.value p ≡ a →
          hand_out s c (suc want) (at_place s q p) (suc j) ≡ hand_out t c (suc want) (at_place s q p) (suc j)
      go later true e =
          let next = count-suc-one kept p (held.kept p i e) in
          rw (← bits, e, ← long)
          (ap (λ (h : Handed). when (ltb (count_below kept p) (room_of s c q.values.start)) h (cut_off (at_place s q p)))
          (ap₂ and_then (here-same p i e) (rw next at (later want))))
      go later false e =
          let k = kept_same p i in
          let next : count_below kept p + cond (is_kept s (at_place s q p) p) 1 0 ≡ count_below kept (suc p) = next-number p in
          rw (← bits, e, ← k, next) (later (suc want))

  -- of the whole piece
  piece-same : (want : ℕ) → hand_piece s c want (entered q) ≡ hand_piece t c want (entered q)
  unfolding hand_piece is_inside ones_from
  piece-same want =
      rw (← long, (masked q.level).bits)
      (ap (λ (h : Handed). when (leb (places (edge_of q.level)) 0) (nothing (entered q)) (when (is_inside s (entered q)) h (cut_off (entered q))))
      (out-same (places (edge_of q.level) - 0) 0 want (omega arith)))

-- Of the stops that a cursor y still hands out, those whose pieces list a record are the same, and so is a walk over them.
module _ (s t : List ℕ) (c : Coding) (wide : IsWidth c.width) (long : length s ≡ length t) where
  count_same : (q : Piece) → SamePiece s t c q → record_count s q ≡ record_count t q
  count_same q h = sym (many s c q) ∙ ap length (records-same s t c wide q h) ∙ many t c q

  pub course-same :
      (us : List Stop) (y x : Cursor) (want : ℕ) (h : Handed) → us ≡ (to_come s c y).items → Each (SamePiece s t c) (map (λ u. u.piece) us) →
      course s c want h x (listing s us) ≡ course t c want h x (listing t us)
  unfolding course listing when
  course-same [] y x want h e k = refl
  course-same (u ∷ us) y x want h e k =
      let f = first-stop s c wide y e in
      rw (← count_same u.piece k.0)
      (go (λ x m g. course-same us u.behind x m g f.1 k.1) (piece-same s t c u.piece f.0 k.0 long) (eqb (record_count s u.piece) 0))
    where
      go : ((x : Cursor) (m : ℕ) (g : Handed) → course s c m g x (listing s us) ≡ course t c m g x (listing t us)) →
          ((m : ℕ) → hand_piece s c m (entered u.piece) ≡ hand_piece t c m (entered u.piece)) → (b : Bool) →
          course s c want h x (when b (listing s us) (u ∷ listing s us)) ≡ course t c want h x (when b (listing t us) (u ∷ listing t us))
      go later here true = later x want h
      go later here false =
          let m = want - length h.records in
          ap (λ (a : Course). when (h.whole && ltb (length h.records) want) (join h.records a) (stopped h x))
          (later u.behind m _ ∙ ap (λ (g : Handed). course t c m g u.behind (listing t us)) (here m))
