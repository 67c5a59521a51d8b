-- From a grid's start on, what a walk hands out is the grid's active list.
use mathlib.Core.Path.{◌≡◌, refl, sym, ap, ◌∙◌}
use mathlib.Core.List.{List, [], ◌∷◌, ◌++◌, append-nil, flat_map}
use mathlib.Core.Bool.{Bool, true, false}
use Prim.Native.Nat.{ℕ, ◌+◌, ◌-◌, ◌≤◌}
use native.Mathlib.Omega.{arith}
use lib.Dec.{ltb}
use lib.ListN.{length, take}
use lib.Seq.{length-take-le, take_all, take-nil, take-append-le, take-append-add}
use borrow.Author.Tests.{le-ltb, ltb-true, ltb-false}
use Rattle.fields.specs.Parse.{when}
use Rattle.half.specs.Inner.{IsWidth}
use Rattle.forms.specs.declared.Coding.{Coding}
use Rattle.tree.specs.Topology.{Node5}
use Rattle.tree.specs.Blocks.{Filled5}
use Rattle.tree.specs.Active.{Record, records_of, active_list}
use Rattle.tree.proofs.Coverage.{Parsed}
use Rattle.bits.specs.Inner.{Handed}
use Rattle.records.specs.Inner.{hand_piece}
use Rattle.cursor.specs.Inner.{Stop}
use Rattle.cursor.specs.declared.Cursor.{Cursor}
use Rattle.cursor.proofs.Whole.{fresh, whole-list}
use Rattle.place.specs.Inner.{entered, nowhere, listing_from, course, hand_on}
use Rattle.place.proofs.Own.{own-records}
use Rattle.place.proofs.Listing.{listed, all_listed, first-listed}

-- the first of two lists and then so many of the second
take-both : {A : Type 0} (n : ℕ) (xs ys : List A) → length xs ≤ n → take n (xs ++ ys) ≡ xs ++ take (n - length xs) ys
take-both n xs ys l =
    let e : length xs + (n - length xs) ≡ n = omega arith in
    rw e at (take-append-add xs ys (n - length xs))

module _ (s : List ℕ) (c : Coding) (wide : IsWidth c.width) where
  -- From a cursor on: the records us, of which h has so many, and then those of the pieces to come.
  course-list :
      (ts : List Stop) (x : Cursor) (want : ℕ) (h : Handed) (us : List Record) → ts ≡ listing_from s c x → h.records ≡ take want us → h.whole ≡ true →
      (course s c want h x ts).records ≡ take want (us ++ listed s c ts)
  unfolding course when flat_map
  course-list [] x want h us e d w = rw append-nil d
  course-list (t ∷ ts) x want h us e d w =
      let f = first-listed s c wide x e in
      let own = own-records s c t.piece f.0 (want - length us) in
      go (course-list ts t.behind (want - length us) _ (records_of s c t.piece) f.1 own.0 own.1) (ltb (length us) want) refl
    where
      go : (course s c (want - length us) (hand_piece s c (want - length us) (entered t.piece)) t.behind ts).records ≡ take (want - length us) (listed s c (t ∷ ts)) →
          (b : Bool) → ltb (length us) want ≡ b → (course s c want h x (t ∷ ts)).records ≡ take want (us ++ listed s c (t ∷ ts))
      go later true b =
          let l = ltb-true (length us) want b in
          rw (w, d, take_all want us (omega arith), b, take-both want us (listed s c (t ∷ ts)) (omega arith)) (ap (◌++◌ us) later)
      go later false b =
          let l = ltb-false (length us) want b in
          rw (w, d, length-take-le want us l, le-ltb want want (omega arith), take-append-le want us (listed s c (t ∷ ts)) l)

-- So from the start: the first m records of the active list.
pub list-from :
    {s : List ℕ} {c : Coding} {roots : List Node5} {filled : List Filled5} (t : Parsed s c roots filled) → IsWidth c.width → (m : ℕ) →
    (hand_on s c m (fresh t) nowhere).records ≡ take m (active_list s c filled)
unfolding hand_piece when
list-from {s} {c} t w m = course-list s c w _ (fresh t) m (hand_piece s c m nowhere) [] refl (sym (take-nil m)) refl ∙ ap (take m) (all_listed s c _ ∙ whole-list t)
