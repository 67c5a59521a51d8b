-- The places of a walk over a tree that was read with its blocks: after no record, after some, after more.
use mathlib.Core.Path.{◌≡◌, sym, ap, ◌∙◌}
use mathlib.Core.List.{List, [], ◌∷◌, ◌++◌}
use Prim.Native.Nat.{ℕ, ◌+◌, ◌≤◌}
use native.Mathlib.Nat.{sub-zero}
use lib.ListN.{length, take, drop}
use lib.Seq.{length-take-le, take-add}
use Rattle.half.specs.Inner.{IsWidth}
use Rattle.forms.specs.declared.Coding.{Coding}
use Rattle.tree.specs.Topology.{Node5}
use Rattle.tree.specs.Blocks.{Filled5}
use Rattle.tree.specs.Active.{Record, active_list}
use Rattle.tree.proofs.Coverage.{Parsed}
use Rattle.cursor.proofs.Whole.{fresh}
use Rattle.place.specs.Inner.{Course, join, hand_on, nowhere, fresh_place, moved, place_from}
use Rattle.place.specs.declared.Start.{Start}
use Rattle.place.proofs.List.{list-from}
use Rattle.place.proofs.Cut.{cut}
use Rattle.place.proofs.Found.{stays}

same_rest : {A : Type 0} (xs ys zs : List A) → xs ++ ys ≡ xs ++ zs → ys ≡ zs
same_rest [] ys zs e = e
same_rest (x ∷ xs) ys zs e = same_rest xs ys zs (let d = ap (drop 1) e in d)

-- after no record
pub after_none : (s : List ℕ) (t : Start) → place_from s t 0 ≡ fresh_place t
unfolding place_from
after_none s t =
    let f = stays s t.coding (fresh_place t).cursor nowhere in
    λ i. moved (fresh_place t) (sub-zero t.length i) (f i).0 (f i).1

-- the records that follow the first m of a list, so many of them, and where the walk stands behind these
module _ {s : List ℕ} {c : Coding} {roots : List Node5} {filled : List Filled5} (t : Parsed s c roots filled) (wide : IsWidth c.width) where
  abbrev listed : List Record
  listed = active_list s c filled

  abbrev after : ℕ → Course
  after m = hand_on s c m (fresh t) nowhere

  -- all m are handed out
  pub after-length : (m : ℕ) → m ≤ length listed → length (after m).records ≡ m
  after-length m h = ap length (list-from t wide m) ∙ length-take-le m listed h

  pub after_more : (m j : ℕ) → m ≤ length listed → after (m + j) ≡ join (after m).records (hand_on s c j (after m).cursor (after m).inside)
  after_more m j h = cut s c wide m j (fresh t) nowhere (after-length m h)

  pub after-records : (m j : ℕ) → m ≤ length listed → (hand_on s c j (after m).cursor (after m).inside).records ≡ take j (drop m listed)
  after-records m j h =
      let a = sym (list-from t wide (m + j)) ∙ ap (λ (a : Course). a.records) (after_more m j h) in
      let b = sym (take-add m j listed) ∙ a ∙ ap (λ (rs : List Record). rs ++ (hand_on s c j (after m).cursor (after m).inside).records) (list-from t wide m) in
      sym (same_rest (take m listed) _ _ b)
