-- From a place of a grid the call hands out the next records, and stands at the place after these.
use mathlib.Core.Path.{◌≡◌, refl, sym, ap, subst, ◌∙◌}
use mathlib.Core.List.{List, [], ◌∷◌}
use mathlib.Core.Bool.{Bool, true, false}
use Prim.Native.Nat.{ℕ, ◌+◌, ◌-◌, ◌≤◌, min}
use native.Mathlib.Nat.{add-zero}
use native.Mathlib.Omega.{arith}
use lib.Dec.{eqb}
use lib.ListN.{length, take, drop, length-take, length-drop}
use borrow.Author.Tests.{eqb-true}
use Rattle.fields.specs.Parse.{when}
use Rattle.fields.specs.Answer.{gives, refuses}
use Rattle.tree.specs.Active.{Record}
use Rattle.slots.specs.Slots.{Slots, slot_count, laid_from}
use Rattle.cursor.specs.declared.Cursor.{Cursor}
use Rattle.slots.specs.declared.Inside.{Inside}
use Rattle.place.specs.Inner.{Course, join, hand_on, nowhere, fresh_place, moved, place_from}
use Rattle.place.specs.declared.Place.{Place}
use Rattle.place.proofs.Places.{after_more, after-records}
use Rattle.grid.specs.Grid.{Grid, active_of, start_of, place_after}
use Rattle.grid.proofs.Coverage.{GridRead}
use Rattle.std.proofs.Common.{Result}
use Rattle.fields.specs.Says.{says_answer}
use Rattle.fields.specs.declared.ParseError.{ParseError}
use Rattle.walk.specs.declared.Walked.{Walked}
use Rattle.walk.specs.Walk.{next_records, walked_to}
use Rattle.walk.specs.Inner.{wanted, course_from, found, stands, walk_from, Does}
use Rattle.walk.proofs.Demand3.{take-there}
use Rattle.walk.proofs.Wide.{wide_is}

pub length-nil : {A : Type 0} (l : List A) → length l ≡ 0 → l ≡ []
length-nil [] e = refl
length-nil (a ∷ l) e = absurd (omega arith)

module _ (s : List ℕ) (g : Grid) (h : GridRead s g) (m : ℕ) (l : m ≤ length (active_of s g)) where
  abbrev n : ℕ
  n = length (active_of s g)

  -- where a walk stands after so many records, and what its place has
  abbrev after : ℕ → Course
  after j = hand_on s g.coding j (fresh_place (start_of s g)).cursor nowhere

  abbrev stood : ℕ → Cursor → Inside → Place
  stood = moved (fresh_place (start_of s g))

  place_is : (i : ℕ) → place_after s g i ≡ stood (n - i) (after i).cursor (after i).inside
  unfolding place_after place_from
  place_is i = refl

  abbrev here : Place
  here = stood (n - m) (after m).cursor (after m).inside

  -- so many more
  abbrev next : ℕ → Course
  next j = hand_on s g.coding j (after m).cursor (after m).inside

  next-records : (j : ℕ) → (next j).records ≡ take j (drop m (active_of s g))
  next-records j =
      subst (λ (x : Cursor). (let a = hand_on s g.coding m x nowhere in (hand_on s g.coding j a.cursor a.inside).records ≡ take j (drop m (active_of s g)))) h.start
      (after-records h.parsed h.width m j l)

  next_place : (j : ℕ) → stood (n - m - j) (next j).cursor (next j).inside ≡ place_after s g (m + j)
  next_place j =
      let e = subst (λ (x : Cursor). (let a = hand_on s g.coding m x nowhere in
      hand_on s g.coding (m + j) x nowhere ≡ join a.records (hand_on s g.coding j a.cursor a.inside))) h.start (after_more h.parsed h.width m j l) in
      let d : n - m - j ≡ n - (m + j) = omega arith in
      (λ i. stood (d i) (sym e i).cursor (sym e i).inside) ∙ sym (place_is (m + j))

  module _ (k : ℕ) where
    abbrev rs : List Record
    rs = next_records s g m k

    many : wanted here k ≡ length rs
    many = sym (length-take k (drop m (active_of s g)) ∙ ap (min k) (length-drop m (active_of s g)))

    their-records : (next (wanted here k)).records ≡ rs
    their-records = next-records (wanted here k) ∙ ap (λ (j : ℕ). take j (drop m (active_of s g))) many ∙ take-there k (drop m (active_of s g))

    are-found : found s here k ≡ rs
    unfolding found when
    are-found = rw (wide_is g.coding.width h.width) their-records

    answers : walk_from s here k ≡ gives (walked_to s g m (length rs))
    unfolding walk_from when
    answers = go (eqb (wanted here k) 0) refl
      where
        go : (b : Bool) → eqb (wanted here k) 0 ≡ b →
            when b (gives (record { place = here; filled = 0; left = n - m })) (when (eqb (length (found s here k)) 0) (refuses 22) (gives (stands here (course_from s here k))))
            ≡ gives (walked_to s g m (length rs))
        go true e =
            let z : length rs ≡ 0 = sym many ∙ eqb-true _ 0 e in
            rw (z, add-zero) (ap (λ (q : Place). gives (record { place = q; filled = 0; left = n - m })) (sym (place_is m)))
        go false e =
            let q = ap length their-records in
            let z = ap (λ (x : ℕ). eqb x 0) (ap length are-found ∙ sym many) ∙ e in
            let d : n - m - length rs ≡ n - (m + length rs) = omega arith in
            rw z (ap gives
            ((λ i. record { place = stood (n - m - q i) (next (many i)).cursor (next (many i)).inside; filled = q i; left = n - m - q i })
            ∙ (λ i. record { place = next_place (length rs) i; filled = length rs; left = d i })))

    fills : (t : Slots) → when (eqb (wanted here k) 0) t (laid_from t 0 (found s here k)) ≡ laid_from t 0 rs
    unfolding when laid_from
    fills t = go (eqb (wanted here k) 0) refl
      where
        go : (b : Bool) → eqb (wanted here k) 0 ≡ b → when b t (laid_from t 0 (found s here k)) ≡ laid_from t 0 rs
        go true e = rw (length-nil rs (sym many ∙ eqb-true _ 0 e))
        go false e = rw are-found

  -- So from the place after m records: the next ones, and the place after these.
  pub does-next :
      (t : Slots) {r : Result Walked ParseError} {t' : Slots} → Does s (place_after s g m) t r t' →
      (says_answer r ≡ gives (walked_to s g m (length (next_records s g m (slot_count t))))) × (t' ≡ laid_from t 0 (next_records s g m (slot_count t)))
  does-next t {r} {t'} d = go (rw (place_is m) at d)
    where
      go : Does s here t r t' → (says_answer r ≡ gives (walked_to s g m (length (next_records s g m (slot_count t))))) × (t' ≡ laid_from t 0 (next_records s g m (slot_count t)))
      go d = (d.answer ∙ answers (slot_count t), d.slots ∙ fills (slot_count t) t)
