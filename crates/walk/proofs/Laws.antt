-- What the call does, and that this is what it promises.
use mathlib.Core.Path.{◌≡◌, refl, sym, ap, subst, ◌∙◌}
use mathlib.Core.List.{List, []}
use mathlib.Core.Bool.{Bool, true, false, true≢false}
use Prim.Native.Nat.{ℕ, ◌+◌, ◌-◌, ◌≤◌, ◌<◌, min}
use native.Mathlib.Omega.{arith}
use lib.Dec.{eqb}
use lib.ListN.{length}
use borrow.Author.Tests.{ne_eqb, eqb-true, eqb-false}
use Rattle.fields.specs.Parse.{when}
use Rattle.fields.specs.Answer.{Answer, gives, refuses}
use Rattle.slots.specs.Slots.{Slots, slot_count, laid_from}
use Rattle.slots.specs.Inner.{Room}
use Rattle.place.specs.Inner.{Course, hand_on, moved, HandedOn}
use Rattle.place.proofs.Cut.{hand-most}
use Rattle.place.specs.declared.Place.{Place}
use Rattle.place.specs.declared.Stand.{Stand}
use Rattle.std.proofs.Common.{Result, Ok, Err}
use Rattle.fields.specs.Says.{says_answer}
use Rattle.fields.specs.declared.ParseError.{ParseError}
use Rattle.fields.specs.declared.ParseError.TheVariants.{ForeignPlace}
use Rattle.walk.specs.Walk.{needed_next, LeftBehind, Promise}
use Rattle.walk.specs.Inner.{is_wide, wanted, course_from, found, stands, walk_from, Does}
use Rattle.walk.proofs.Past.{nothing-there}
use Rattle.walk.proofs.Reached.{does-next, length-nil}
use Rattle.fields.proofs.Answers.{gives_same}
use Rattle.grid.proofs.Coverage.{grid-read}
use Rattle.tree.specs.Active.{Record}
use Rattle.walk.specs.declared.Walked.{Walked}

pub refuses-gives : {A : Type 0} {n : ℕ} {a : A} → refuses n ≡ gives a → ⊥
refuses-gives e = let z : ◌≡◌ {A = ℕ} 0 1 = cc in absurd (omega arith)

refuses-same : {A : Type 0} {n m : ℕ} → ◌≡◌ {A = Answer A} (refuses n) (refuses m) → n ≡ m
refuses-same e = cc

least : (k left : ℕ) {n : ℕ} → n ≤ min k left → n ≤ k
least k left h = omega (arith, h)

fewest : (k left : ℕ) {n : ℕ} → n ≤ min k left → n ≤ left
fewest k left h = omega (arith, h)

no_more : (left : ℕ) → min 0 left ≡ 0
no_more left = omega arith

some_of : (k left : ℕ) → 0 < k → 0 < left → min k left ≡ 0 → ⊥
some_of k left a b e = omega (arith, a, b, e)

-- the count that the code has is the one that is wanted
pub walks-by :
    (s : List ℕ) (p : Place) (k : ℕ) {n : ℕ} {t t' : Slots} {v : Stand} → n ≡ wanted p k →
    HandedOn (hand_on s p.start.coding n p.cursor p.inside) t t' v → HandedOn (course_from s p k) t t' v
walks-by s p k e f = rw (← e) f

pub left-enough : (s : List ℕ) (p : Place) (k : ℕ) {t t' : Slots} {v : Stand} → HandedOn (course_from s p k) t t' v → v.filled ≤ p.left
left-enough s p k f =
    let l = hand-most s p.start.coding (wanted p k) p.cursor p.inside in
    omega (arith, f.filled, l)

-- no more slots are used than each slice has
pub all_room : (t : Slots) (n : ℕ) → n ≤ slot_count t → Room n t
all_room t n h =
    record {
      in-x = omega (arith, h);
      in-y = omega (arith, h);
      in-z = omega (arith, h);
      in-level = omega (arith, h);
      in-value = omega (arith, h);
    }

pub count_room : (t : Slots) (n left : ℕ) → n ≡ min (slot_count t) left → Room n t
count_room t n left e = all_room t n (least (slot_count t) e)
  where
    least : (m : ℕ) → n ≡ min m left → n ≤ m
    least m e = omega (arith, e)

-- The four ways out of a call.
module _ (s : List ℕ) (p : Place) (t : Slots) where
  abbrev k : ℕ
  k = slot_count t

  pub does-nothing : {w : Walked} → wanted p k ≡ 0 → w ≡ record { place = p; filled = 0; left = p.left } → Does s p t (Ok w) t
  unfolding walk_from when
  does-nothing e d = record { answer = rw (d, e); slots = rw e }

  pub not_wide : (wanted p k ≡ 0 → ⊥) → is_wide p.start.coding.width ≡ false → Does s p t (Err ForeignPlace) t
  unfolding walk_from found when laid_from
  not_wide n e = record { answer = rw (ne_eqb _ 0 n, e); slots = rw (ne_eqb _ 0 n, e) }

  module _ (some-wanted : wanted p k ≡ 0 → ⊥) (e : is_wide p.start.coding.width ≡ true) {t' : Slots} {v : Stand} (f : HandedOn (course_from s p k) t t' v) where
    pub none_found : v.filled ≡ 0 → Does s p t (Err ForeignPlace) t'
    unfolding walk_from found when
    none_found z = record { answer = rw (ne_eqb _ 0 some-wanted, e, sym f.filled ∙ z); slots = rw (ne_eqb _ 0 some-wanted, e) f.slots }

    pub some-found :
        {w : Walked} {q : Place} → (v.filled ≡ 0 → ⊥) → q ≡ moved p (p.left - v.filled) v.cursor v.inside → w ≡ record { place = q; filled = v.filled; left = q.left } →
        Does s p t (Ok w) t'
    unfolding walk_from found when
    some-found {w} {q} n d g =
        record {
          answer = rw (ne_eqb _ 0 some-wanted, e, ne_eqb (length (course_from s p k).records) 0 (λ z. n (f.filled ∙ z)))
              (ap gives (g ∙ (λ i. record { place = d i; filled = v.filled; left = (d i).left })
              ∙ (λ i. record { place = moved p (p.left - f.filled i) (f.cursor i) (f.inside i); filled = f.filled i; left = p.left - f.filled i })));
          slots = rw (ne_eqb _ 0 some-wanted, e) f.slots;
        }

-- records that are found are those of the walk's course
found_some : (s : List ℕ) (p : Place) (k : ℕ) → eqb (length (found s p k)) 0 ≡ false → found s p k ≡ (course_from s p k).records
unfolding found when
found_some s p k = go (is_wide p.start.coding.width)
  where
    go : (b : Bool) → eqb (length (when b (course_from s p k).records [])) 0 ≡ false → when b (course_from s p k).records [] ≡ (course_from s p k).records
    go true e = refl
    go false e = absurd (true≢false e)

-- What it answers, whatever the place is.
module _ {s : List ℕ} {p : Place} {t : Slots} {r : Result Walked ParseError} {t' : Slots} (d : Does s p t r t') where
  abbrev rs : List Record
  rs = found s p (slot_count t)

  does-refuse : (n : ℕ) → says_answer r ≡ refuses n → (n ≡ 22) × (t' ≡ t)
  unfolding walk_from when laid_from
  does-refuse n e = go _ _ (eqb (wanted p (slot_count t)) 0) (eqb (length rs) 0) refl (sym e ∙ d.answer) d.slots
    where
      go : (x y : Walked) (a b : Bool) → eqb (length rs) 0 ≡ b → refuses n ≡ when a (gives x) (when b (refuses 22) (gives y)) → t' ≡ when a t (laid_from t 0 rs) → (n ≡ 22) × (t' ≡ t)
      go x y true b f e g = absurd (refuses-gives e)
      go x y false true f e g = (refuses-same e, g ∙ rw (length-nil rs (eqb-true _ 0 f)))
      go x y false false f e g = absurd (refuses-gives e)

  does-some : (w : Walked) → says_answer r ≡ gives w → (rs : List Record) × (length rs ≡ w.filled) × (w.filled ≤ slot_count t) × (t' ≡ laid_from t 0 rs)
  unfolding walk_from when laid_from
  does-some w e = go (eqb (wanted p (slot_count t)) 0) (eqb (length rs) 0) refl (sym e ∙ d.answer) d.slots
    where
      a : Course
      a = course_from s p (slot_count t)

      few : length a.records ≤ slot_count t
      few = least (slot_count t) p.left (hand-most s p.start.coding (wanted p (slot_count t)) p.cursor p.inside)

      go : (x y : Bool) → eqb (length rs) 0 ≡ y → gives w ≡ when x (gives (record { place = p; filled = 0; left = p.left })) (when y (refuses 22) (gives (stands p a))) →
          t' ≡ when x t (laid_from t 0 rs) → (rs : List Record) × (length rs ≡ w.filled) × (w.filled ≤ slot_count t) × (t' ≡ laid_from t 0 rs)
      go true y f e g =
          let z : w.filled ≡ 0 = ap (λ (w : Walked). w.filled) (gives_same e) in
          ([], sym z, rw z (omega arith), g)
      go false true f e g = absurd (refuses-gives (sym e))
      go false false f e g =
          let z : w.filled ≡ length a.records = ap (λ (w : Walked). w.filled) (gives_same e) in
          (rs, ap length (found_some s p (slot_count t) f) ∙ sym z, rw z few, g)

  does-left : (w : Walked) → says_answer r ≡ gives w → LeftBehind p (slot_count t) w
  unfolding walk_from when
  does-left w e = go (eqb (wanted p (slot_count t)) 0) (eqb (length rs) 0) refl refl (sym e ∙ d.answer)
    where
      a : Course
      a = course_from s p (slot_count t)

      few : length a.records ≤ p.left
      few = fewest (slot_count t) p.left (hand-most s p.start.coding (wanted p (slot_count t)) p.cursor p.inside)

      go : (x y : Bool) → eqb (wanted p (slot_count t)) 0 ≡ x → eqb (length rs) 0 ≡ y →
          gives w ≡ when x (gives (record { place = p; filled = 0; left = p.left })) (when y (refuses 22) (gives (stands p a))) →
          LeftBehind p (slot_count t) w
      go true y f h e = rw (gives_same e) record {
        start = refl;
        most = omega arith;
        left = omega arith;
        in_place = refl;
        some = λ i j. absurd (some_of (slot_count t) p.left i j (eqb-true _ 0 f));
      }
      go false true f h e = absurd (refuses-gives (sym e))
      go false false f h e =
          let n : length a.records ≡ 0 → ⊥ = λ z. eqb-false _ 0 h (ap length (found_some s p (slot_count t) h) ∙ z) in
          rw (gives_same e) record { start = refl; most = few; left = refl; in_place = refl; some = λ i j. omega (arith, n) }

  does-none : slot_count t ≡ 0 → says_answer r ≡ gives (record { place = p; filled = 0; left = p.left })
  unfolding walk_from when
  does-none e =
      let z : wanted p (slot_count t) ≡ 0 = rw e (no_more p.left) in
      d.answer ∙ rw z

  does-past : 0 < slot_count t → 0 < p.left → length s < (needed_next p).start + (needed_next p).bytes → says_answer r ≡ refuses 22
  unfolding walk_from found when
  does-past a b f =
      let z = nothing-there s p (slot_count t) f in
      d.answer ∙ rw (ne_eqb (wanted p (slot_count t)) 0 (some_of (slot_count t) p.left a b), z) (go _ (is_wide p.start.coding.width))
    where
      go : (y : Answer Walked) (b : Bool) → when (eqb (length {A = Record} (when b [] [])) 0) (refuses 22) y ≡ refuses 22
      go y true = refl
      go y false = refl

-- It keeps its promise.
pub keeps : (s : List ℕ) (p : Place) (t : Slots) {r : Result Walked ParseError} {t' : Slots} → Does s p t r t' → Promise s p t r t'
keeps s p t {r} {t'} d =
    record {
      reached = λ asked name g m e l f. does-next s g (grid-read s asked name e) m l t (subst (λ (q : Place). Does s q t r t') f d);
      some-records = does-some d;
      refused = does-refuse d;
      left_behind = does-left d;
      no-slots = does-none d;
      past_end = does-past d;
    }
