-- The pieces that list a record: the first one that a cursor still hands out, and what all of them list.
use mathlib.Core.Path.{◌≡◌, refl, sym, ap, ◌∙◌}
use mathlib.Core.List.{List, [], ◌∷◌, ◌++◌, map, flat_map}
use mathlib.Core.Bool.{Bool, true, false, ◌&&◌, true≢false}
use Prim.Native.Nat.{ℕ, ◌-◌, ◌*◌, ◌≤◌, ◌<◌}
use native.Mathlib.Omega.{arith}
use lib.Dec.{leb, eqb}
use lib.ListN.{length, length-map}
use borrow.Author.Tests.{eqb-true, eqb-false, ne_eqb, le-leb, lt-leb}
use Rattle.std.proofs.Common.{Option, None, Some}
use Rattle.std.specs.Option.{is_some}
use Rattle.fields.specs.Parse.{when}
use Rattle.half.specs.Inner.{IsWidth}
use Rattle.coordinates.specs.Coordinates.{places}
use Rattle.coordinates.specs.declared.Index.{Index}
use Rattle.masks.specs.Masks.{mask_bit, ones, count_below}
use Rattle.masks.specs.Inner.{IsMask, next_one}
use Rattle.masks.proofs.Laws.{ones_none, count-strict, next-lt, next_one_lem, next-none-count}
use Rattle.forms.specs.declared.Coding.{Coding}
use Rattle.tree.specs.Active.{Record, Piece, edge_of, record_at, records_of}
use Rattle.tree.specs.Inner.{record_count, leaf_count}
use Rattle.tree.proofs.Counting.{total}
use Rattle.cursor.specs.Inner.{Rest, Stop, stop, to_come, HeldPiece}
use Rattle.cursor.specs.declared.Cursor.{Cursor}
use Rattle.cursor.proofs.Step.{follows}
use Rattle.slots.specs.Inner.{mask_bytes}
use Rattle.slots.proofs.Levels.{masked}
use Rattle.skip.specs.Inner.{Skip, before, ended, refused, skipping, skip_from}
use Rattle.skip.proofs.Laws.{leaves_in}
use Rattle.skip.proofs.Few.{cursor-leaves}
use Rattle.place.specs.Inner.{listing, listing_from}

-- what tells that there is one
pub some-one : {A : Type 0} (o : Option A) → is_some o ≡ true → (a : A) × (Some a ≡ o)
some-one None e = absurd (true≢false (sym e))
some-one (Some a) e = (a, refl)

module _ (s : List ℕ) (c : Coding) where
  -- a piece lists as many records as its value mask has ones
  pub many : (q : Piece) → length (records_of s c q) ≡ record_count s q
  unfolding records_of
  many q = length-map (ones (mask_bit s q.value) (places (edge_of q.level))) (record_at s c q)

  no_record : (rs : List Record) → length rs ≡ 0 → rs ≡ []
  no_record [] e = refl
  no_record (r ∷ rs) e = absurd (omega arith)

  -- a stop at a piece that lists nothing, and at one that lists something
  pub list-none : (t : Stop) (ts : List Stop) → record_count s t.piece ≡ 0 → listing s (t ∷ ts) ≡ listing s ts
  unfolding listing when
  list-none t ts e = rw e

  pub list-some : (t : Stop) (ts : List Stop) → (record_count s t.piece ≡ 0 → ⊥) → listing s (t ∷ ts) ≡ t ∷ listing s ts
  unfolding listing when
  list-some t ts e = rw (ne_eqb (record_count s t.piece) 0 e)

  -- the records of the pieces at these stops: an empty piece adds none
  abbrev pub listed : List Stop → List Record
  listed ts = flat_map (records_of s c) (map (λ t. t.piece) ts)

  pub all_listed : (ts : List Stop) → listed (listing s ts) ≡ listed ts
  unfolding listing flat_map when
  all_listed [] = refl
  all_listed (t ∷ ts) = go (all_listed ts) (eqb (record_count s t.piece) 0) refl
    where
      go : listed (listing s ts) ≡ listed ts → (b : Bool) → eqb (record_count s t.piece) 0 ≡ b → listed (when b (listing s ts) (t ∷ listing s ts)) ≡ records_of s c t.piece ++ listed ts
      go later true e = rw (no_record (records_of s c t.piece) (many t.piece ∙ eqb-true _ _ e)) later
      go later false e = rw later

module _ (s : List ℕ) (c : Coding) (wide : IsWidth c.width) where
  -- the first stop's piece can be read from, and the others are those of the cursor behind it
  pub first-stop : (x : Cursor) {t : Stop} {ts : List Stop} → t ∷ ts ≡ (to_come s c x).items → HeldPiece s c t.piece × (ts ≡ (to_come s c t.behind).items)
  first-stop x {t} {ts} e =
      let r : Rest Stop = record { items = ts; refusal = (to_come s c x).refusal } in
      let f = follows s c wide x {r = r} (λ i. record { items = e i; refusal = r.refusal }) in
      (f.0, ap (λ (z : Rest Stop). z.items) f.1)

  -- so also of those that list a record
  abbrev First : Stop → List Stop → Type 0
  First t ts = HeldPiece s c t.piece × (ts ≡ listing_from s c t.behind)

  first_of : (us : List Stop) (x : Cursor) → us ≡ (to_come s c x).items → {t : Stop} {ts : List Stop} → t ∷ ts ≡ listing s us → First t ts
  unfolding listing when
  first_of [] x e d = absurd (omega (arith, ap length d))
  first_of (u ∷ us) x e {t} {ts} d =
      let f = first-stop x e in
      go f (λ d. first_of us u.behind f.1 d) (eqb (record_count s u.piece) 0) d
    where
      go : HeldPiece s c u.piece × (us ≡ (to_come s c u.behind).items) → (t ∷ ts ≡ listing s us → First t ts) → (b : Bool) → t ∷ ts ≡ when b (listing s us) (u ∷ listing s us) → First t ts
      go f later true d = later d
      go f later false d =
          let h : t ≡ u = cc in
          let l : ts ≡ listing s us = cc in
          rw h (f.0, l ∙ ap (listing s) f.1)

  pub first-listed : (x : Cursor) {t : Stop} {ts : List Stop} → t ∷ ts ≡ listing_from s c x → First t ts
  first-listed x d = first_of (to_come s c x).items x refl d

  -- The next piece lists a record, or lists none, or there is no next one.
  module _ (x : Cursor) where
    pub listed-none : {r : Rest Stop} → r.items ≡ [] → r ≡ to_come s c x → [] ≡ listing_from s c x
    unfolding listing
    listed-none e d = rw (← d, e)

    module _ {q : Piece} {y : Cursor} (d : stop q y (to_come s c y) ≡ to_come s c x) where
      abbrev active : ℕ → Bool
      active = mask_bit s q.value

      pub mask-there : {n : ℕ} → n ≡ mask_bytes q.level → IsMask s q.value n × (0 ≤ 8 * n)
      mask-there e = (rw e (follows s c wide x d).0.held.value-mask, omega arith)

      bits : {n : ℕ} → n ≡ mask_bytes q.level → 8 * n ≡ places (edge_of q.level)
      bits e = rw e (masked q.level).bits

      pub listed_here : {n : ℕ} {p : Index} → n ≡ mask_bytes q.level → Some p ≡ next_one active (8 * n) 0 → record { piece = q; behind = y } ∷ listing_from s c y ≡ listing_from s c x
      unfolding listing when
      listed_here {n} {p} e f =
          let l = count-strict active p.0 (8 * n) (next_one_lem active (8 * n) 0 p (sym f)) (next-lt active (8 * n) 0 p (sym f)) in
          rw (← d, ne_eqb (record_count s q) 0 (λ z. omega (arith, rw (bits e) at l)))

      pub listed-later : {n : ℕ} → n ≡ mask_bytes q.level → None ≡ next_one active (8 * n) 0 → listing_from s c y ≡ listing_from s c x
      unfolding listing when
      listed-later {n} e f =
          let z : count_below active (8 * n) ≡ 0 = next-none-count active (8 * n) 0 (omega arith) (sym f) ∙ ap length (ones_none active 0) in
          rw (← d, ← bits e, z)

  -- Passing pieces that list nothing, where leaves enough may be passed, comes to the first one that lists something.
  abbrev pub found_at : Skip → List Stop
  found_at (before t n k) = t ∷ listing_from s c t.behind
  found_at (ended n k) = []
  found_at (refused j) = []

  found-step :
      (t : Stop) (ts : List Stop) (k : ℕ) (r : Option ℕ) → leaves_in (t ∷ ts) ≤ k → ts ≡ (to_come s c t.behind).items →
      (leaves_in ts ≤ k - leaf_count t.piece → found_at (skipping s 0 (k - leaf_count t.piece) ts r) ≡ listing s ts) → found_at (skipping s 0 k (t ∷ ts) r) ≡ listing s (t ∷ ts)
  unfolding skipping listing total when
  found-step t ts k r l e later = go (eqb (record_count s t.piece) 0) refl
    where
      go : (b : Bool) → eqb (record_count s t.piece) 0 ≡ b →
          found_at (when (leb (record_count s t.piece) 0 && leb (leaf_count t.piece) k) (skipping s (0 - record_count s t.piece) (k - leaf_count t.piece) ts r) (before t 0 k))
          ≡ when b (listing s ts) (t ∷ listing s ts)
      go true d = rw (eqb-true (record_count s t.piece) 0 d, le-leb (leaf_count t.piece) k (omega arith)) (later (omega arith))
      go false d = rw (lt-leb (record_count s t.piece) 0 (omega (arith, eqb-false (record_count s t.piece) 0 d)), e)

  found_from : (ts : List Stop) (x : Cursor) (k : ℕ) (r : Option ℕ) → ts ≡ (to_come s c x).items → leaves_in ts ≤ k → found_at (skipping s 0 k ts r) ≡ listing s ts
  unfolding skipping listing
  found_from [] x k None e l = refl
  found_from [] x k (Some j) e l = refl
  found_from (t ∷ ts) x k r e l =
      let f = first-stop x e in
      found-step t ts k r l f.1 (found_from ts t.behind (k - leaf_count t.piece) r f.1)

  pub found : (x : Cursor) {a : Skip} → a ≡ skip_from s c 0 18446744073709551615 x → x.roots_left < 4294967296 → found_at a ≡ listing_from s c x
  found x e l = ap found_at e ∙ found_from (to_come s c x).items x _ (to_come s c x).refusal refl (omega (arith, cursor-leaves s c x))
