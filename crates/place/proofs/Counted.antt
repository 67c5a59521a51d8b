-- Counting whole pieces leads where handing out their records one by one does.
use mathlib.Core.Path.{◌≡◌, refl, ap, ◌∙◌}
use mathlib.Core.List.{List, [], ◌∷◌, ◌++◌}
use mathlib.Core.Bool.{Bool, true, false}
use Prim.Native.Nat.{ℕ, ◌+◌, ◌-◌, ◌≤◌, ◌<◌}
use native.Mathlib.Omega.{arith}
use lib.Dec.{ltb, eqb}
use lib.ListN.{length, take, length-append}
use lib.Seq.{length-take-le, take_all}
use borrow.Author.Tests.{lt-ltb, le-leb, lt-leb, eqb-true, eqb-false, ltb-true, ltb-false}
use Rattle.std.proofs.Common.{Option, Some}
use Rattle.fields.specs.Parse.{when}
use Rattle.half.specs.Inner.{IsWidth}
use Rattle.forms.specs.declared.Coding.{Coding}
use Rattle.tree.specs.Active.{records_of}
use Rattle.tree.specs.Inner.{record_count, leaf_count}
use Rattle.tree.proofs.Counting.{total}
use Rattle.bits.specs.Inner.{Handed}
use Rattle.records.specs.Inner.{hand_piece}
use Rattle.cursor.specs.Inner.{Stop, to_come, HeldPiece}
use Rattle.cursor.specs.declared.Cursor.{Cursor}
use Rattle.skip.specs.Inner.{before, skipping, skip_from}
use Rattle.skip.proofs.Laws.{leaves_in}
use Rattle.skip.proofs.Few.{cursor-leaves}
use Rattle.place.specs.Inner.{join, entered, listing, listing_from, course, stand_of, behind_of}
use Rattle.place.proofs.Own.{own-records}
use Rattle.place.proofs.Cut.{course-full}
use Rattle.place.proofs.Listing.{many, list-none, list-some, first-stop}

-- so many leaves less may be passed
fewer : (t : Stop) (ts : List Stop) (k : ℕ) → leaves_in (t ∷ ts) ≤ k → leaves_in ts ≤ k - leaf_count t.piece
unfolding total
fewer t ts k l = omega arith

-- one piece is passed, or does not fit
module _ (s : List ℕ) (t : Stop) (ts : List Stop) (n k : ℕ) (r : Option ℕ) where
  skip-on : record_count s t.piece ≤ n → leaves_in (t ∷ ts) ≤ k → skipping s n k (t ∷ ts) r ≡ skipping s (n - record_count s t.piece) (k - leaf_count t.piece) ts r
  unfolding skipping total when
  skip-on l m = rw (le-leb (record_count s t.piece) n l, le-leb (leaf_count t.piece) k (omega arith))

  skip_stop : n < record_count s t.piece → skipping s n k (t ∷ ts) r ≡ before t n k
  unfolding skipping when
  skip_stop l = rw (lt-leb (record_count s t.piece) n l)

module _ (s : List ℕ) (c : Coding) (wide : IsWidth c.width) where
  -- a walk goes on where more is wanted
  course-on :
      (want : ℕ) (h : Handed) (x : Cursor) (t : Stop) (ts : List Stop) → h.whole ≡ true → length h.records < want → let n = want - length h.records in
      course s c want h x (t ∷ ts) ≡ join h.records (course s c n (hand_piece s c n (entered t.piece)) t.behind ts)
  unfolding course when
  course-on want h x t ts w l = rw (w, lt-ltb _ _ l)

  -- Behind h, which was whole and less than is wanted, a walk over the pieces at ts that has as many records before it ends where counting leads.
  abbrev Leads : List Stop → ℕ → Option ℕ → Type 0
  Leads ts k r =
      (x : Cursor) (want : ℕ) (h : Handed) → h.whole ≡ true → length h.records < want → want ≤ length (course s c want h x (listing s ts)).records →
      behind_of s c (skipping s (want - length h.records - 1) k ts r) ≡ Some (stand_of (course s c want h x (listing s ts)))

  module _ (t : Stop) (ts : List Stop) (k : ℕ) (r : Option ℕ) (few : leaves_in (t ∷ ts) ≤ k) (later : Leads ts (k - leaf_count t.piece) r) where
    -- the next piece lists nothing
    past-empty : record_count s t.piece ≡ 0 → Leads (t ∷ ts) k r
    past-empty z x want h w l m =
        let n = want - length h.records - 1 in
        let e : n - record_count s t.piece ≡ n = omega (arith, z) in
        rw (list-none s c t ts z, skip-on s t ts n k r (omega (arith, z)) few, e) (later x want h w l (rw (list-none s c t ts z) at m))

    -- it has the last record that is wanted, or it is passed
    in-piece :
        HeldPiece s c t.piece → (want : ℕ) → 0 < want → let h = hand_piece s c want (entered t.piece) in
        want ≤ length (course s c want h t.behind (listing s ts)).records →
        behind_of s c (skipping s (want - 1) k (t ∷ ts) r) ≡ Some (stand_of (course s c want h t.behind (listing s ts)))
    in-piece held want l m = go (own-records s c t.piece held want) (ltb (record_count s t.piece) want) refl
      where
        h : Handed
        h = hand_piece s c want (entered t.piece)

        go : (h.records ≡ take want (records_of s c t.piece)) × (h.whole ≡ true) → (b : Bool) → ltb (record_count s t.piece) want ≡ b →
            behind_of s c (skipping s (want - 1) k (t ∷ ts) r) ≡ Some (stand_of (course s c want h t.behind (listing s ts)))
        go own true b =
            let i = ltb-true (record_count s t.piece) want b in
            let n : length h.records ≡ record_count s t.piece = ap length (own.0 ∙ take_all want _ (omega (arith, i, many s c t.piece))) ∙ many s c t.piece in
            let e : want - 1 - record_count s t.piece ≡ want - length h.records - 1 = omega (arith, n) in
            rw (skip-on s t ts (want - 1) k r (omega (arith, i)) few, e) (later t.behind want h own.1 (rw n i) m)
        go own false b =
            let i = ltb-false (record_count s t.piece) want b in
            let n : length h.records ≡ want = ap length own.0 ∙ length-take-le want _ (rw (many s c t.piece) i) in
            let e : want - 1 + 1 ≡ want = omega arith in
            rw (skip_stop s t ts (want - 1) k r (omega (arith, i, l)), course-full s c want h t.behind (listing s ts) n, e)

    past-full : HeldPiece s c t.piece → (record_count s t.piece ≡ 0 → ⊥) → Leads (t ∷ ts) k r
    past-full held z x want h w l m =
        let n = want - length h.records in
        let e = course-on want h x t (listing s ts) w l in
        let a = course s c n (hand_piece s c n (entered t.piece)) t.behind (listing s ts) in
        let j : want ≤ length (h.records ++ a.records) = rw (list-some s c t ts z, e) at m in
        rw (list-some s c t ts z, e) (in-piece held n (omega arith) (omega (arith, length-append h.records a.records)))

  pub leads : (ts : List Stop) (y : Cursor) (k : ℕ) (r : Option ℕ) → ts ≡ (to_come s c y).items → leaves_in ts ≤ k → Leads ts k r
  unfolding course listing
  leads [] y k r e few = λ x want h w l m. absurd (omega arith)
  leads (t ∷ ts) y k r e few =
      let f = first-stop s c wide y e in
      go (leads ts t.behind (k - leaf_count t.piece) r f.1) f.0 (eqb (record_count s t.piece) 0) refl
    where
      go : (leaves_in ts ≤ k - leaf_count t.piece → Leads ts (k - leaf_count t.piece) r) → HeldPiece s c t.piece → (b : Bool) → eqb (record_count s t.piece) 0 ≡ b → Leads (t ∷ ts) k r
      go later held true b = past-empty t ts k r few (later (fewer t ts k few)) (eqb-true _ _ b)
      go later held false b = past-full t ts k r few (later (fewer t ts k few)) held (eqb-false _ _ b)

  -- so from a cursor on
  pub leads-on :
      (x : Cursor) → x.roots_left < 4294967296 → (want : ℕ) (h : Handed) → h.whole ≡ true → length h.records < want →
      want ≤ length (course s c want h x (listing_from s c x)).records →
      behind_of s c (skip_from s c (want - length h.records - 1) 18446744073709551615 x) ≡ Some (stand_of (course s c want h x (listing_from s c x)))
  leads-on x small want h w l m =
      leads (to_come s c x).items x _ (to_come s c x).refusal refl (omega (arith, cursor-leaves s c x)) x want h w l m
