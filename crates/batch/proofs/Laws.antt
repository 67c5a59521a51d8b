-- Slots filled one after the other, values that lie in the file, and the ones of a word taken one by one.
use mathlib.Core.Path.{◌≡◌, refl, sym, ap, ◌∙◌}
use mathlib.Core.List.{List}
use mathlib.Core.Bool.{Bool, true, false, true≢false}
use Prim.Native.Nat.{ℕ, zero, suc, ◌+◌, ◌-◌, ◌*◌, ◌^◌, ◌≤◌, ◌<◌}
use native.Mathlib.Nat.{lt_of_not-le, lt_of_le_of_lt, div-mul-le_self, zero-add}
use native.Mathlib.Numerals.{add-one}
use native.Mathlib.Omega.{arith}
use lib.Count.{count_trailing_zeros}
use lib.Dec.{eqb}
use lib.ListN.{length, length-set, set, get_or}
use lib.Seq.{get_or-set_same, get_or-set_other}
use borrow.Author.Tests.{eqb-true, eqb-false}
use Rattle.fields.specs.Le.{u16_at}
use Rattle.masks.specs.Masks.{digit, count_below}
use Rattle.masks.specs.Inner.{ones_past}
use Rattle.masks.proofs.Laws.{ones-nil, count_add, count-suc-one, count-strict}
use Rattle.masks.proofs.Ones.{Lowest, lowest, none-there, past-on}
use Rattle.half.specs.Half.{widened, stored_value}
use Rattle.half.proofs.Laws.{stored-half}
use Rattle.forms.specs.declared.Coding.{Coding}
use Rattle.values.specs.Inner.{InRun}
use Rattle.values.proofs.Laws.{in-run}
use Rattle.batch.specs.Inner.{ranged, numbered, in_order, InFile, OnesSet}

-- The invariant of every loop that fills 64 slots from i on: so far k of them are set, the others are as they were.
abbrev pub Filling : {A : Type 0} → List A → ℕ → (ℕ → A) → List A → ℕ → Type 0
Filling xs i f ys k = (k ≤ 64) × (length ys ≡ length xs) × (ys ≡ ranged xs i k f)

module _ {A : Type 0} (xs : List A) (i : ℕ) (f : ℕ → A) where
  pub filling-none : Filling xs i f xs 0
  unfolding ranged
  filling-none = (omega arith, refl, refl)

  pub filling-next : (ys : List A) (k : ℕ) {v : A} → Filling xs i f ys k → k < 64 → v ≡ f k → Filling xs i f (set ys (i + k) v) (k + 1)
  unfolding ranged
  filling-next ys k h l d = (omega arith, simp length-set h.1, rw (add-one k) (λ q. set (h.2 q) (i + k) (d q)))

  pub filling-all : (ys : List A) (k : ℕ) → Filling xs i f ys k → 64 ≤ k → ys ≡ ranged xs i 64 f
  filling-all ys k h l = let e : k ≡ 64 = omega (arith, h.0) in rw e at h.2

-- how many elements there are then, and what one of them is
module _ {A : Type 0} (xs : List A) where
  pub length-ranged : (i n : ℕ) (f : ℕ → A) → length (ranged xs i n f) ≡ length xs
  unfolding ranged
  length-ranged i zero f = refl
  length-ranged i (suc n) f = simp length-set (length-ranged i n f)

  pub ranged-at : (d : A) (n : ℕ) (f : ℕ → A) (k : ℕ) → n ≤ length xs → k < n → get_or (ranged xs 0 n f) k d ≡ f k
  unfolding ranged
  ranged-at d zero f k l h = absurd (omega arith)
  ranged-at d (suc n) f k l h = rw (zero-add n) (go (ranged-at d n f k (omega arith)) (eqb k n) refl)
    where
      go : (k < n → get_or (ranged xs 0 n f) k d ≡ f k) → (b : Bool) → eqb k n ≡ b → get_or (set (ranged xs 0 n f) n (f n)) k d ≡ f k
      go before true e =
          let m : k ≡ n = eqb-true k n e in
          rw m (get_or-set_same (ranged xs 0 n f) n (f n) d (omega (arith, length-ranged 0 n f)))
      go before false e =
          let m : k ≡ n → ⊥ = eqb-false k n e in
          get_or-set_other (ranged xs 0 n f) n k (f n) d m ∙ before (omega arith)

-- each of the values lies in the file
pub one-in-file : {s : List ℕ} {c : Coding} {start number n : ℕ} (k : ℕ) → InFile s c start number n → k < n → InRun s c start (number + k)
one-in-file {s} {c} {start} {number} {n} k h l =
    (omega (arith, h.few), in-run start (number + k) (number + n) c.width (length s) (omega arith) h.within)

-- values of two bytes are halves
module _ (s : List ℕ) (c : Coding) (start number : ℕ) (e : c.width ≡ 2) where
  pub halves_are : (λ (k : ℕ). widened (u16_at s (start + number * 2 + k * 2))) ≡ numbered s c start number
  halves_are q k =
      let d : start + number * 2 + k * 2 ≡ start + (number + k) * c.width = rw e (omega arith) in
      (ap (λ (n : ℕ). widened (u16_at s n)) d ∙ stored-half c.width s (start + (number + k) * c.width) e) q

  pub halves-there : InFile s c start number 64 → start + number * 2 + 128 ≤ length s
  halves-there h = omega (arith, rw e at h.within)

-- Ones taken from the lowest on: those before place p are set, those from there on are left, and all else is as it was.
pub record Setting (f : ℕ → ℕ) (ones : ℕ) (before slots : List ℕ) (left p : ℕ) : Type 0 where
  pub word : p ≤ 64
  pub rest : left ≡ ones_past ones p
  pub many : length slots ≡ 64
  pub set-ones : (i : ℕ) → i < p → digit ones i ≡ true → get_or slots i 0 ≡ f i
  pub others : (i : ℕ) → i < 64 → (i < p → digit ones i ≡ false) → get_or slots i 0 ≡ get_or before i 0

module _ {f : ℕ → ℕ} {ones : ℕ} {before : List ℕ} where
  pub setting-none : length before ≡ 64 → Setting f ones before before ones 0
  setting-none e = record { word = omega arith; rest = omega arith; many = e; set-ones = λ i l. absurd (omega arith); others = λ i l h. refl }

  module _ {slots : List ℕ} {left p : ℕ} (small : ones < 2 ^ 64) (h : Setting f ones before slots left p) where
    pub left-small : left < 2 ^ 64
    left-small = rw h.rest (lt_of_le_of_lt (div-mul-le_self ones (2 ^ p)) small)

    pub setting-all : left ≡ 0 → OnesSet f ones before slots
    setting-all z = record {
      many = h.many;
      set = λ i l o. h.set-ones i (lt_of_not-le (λ g. true≢false (sym o ∙ none-there ones p (sym h.rest ∙ z) i g))) o;
      kept = λ i l o. h.others i l (λ g. o);
    }

    pub count-all : left ≡ 0 → count_below (digit ones) p ≡ count_below (digit ones) 64
    count-all z =
        let e : p + (64 - p) ≡ 64 = omega (arith, h.word) in
        omega (arith, rw e at (count_add (digit ones) p (64 - p)), ap length (ones-nil (digit ones) (64 - p) p (λ i l g. none-there ones p (sym h.rest ∙ z) i l)))

    module _ (z : left ≡ 0 → ⊥) where
      abbrev q : ℕ
      q = count_trailing_zeros 64 left

      pub found : Lowest ones p q
      found = rw h.rest (lowest ones p small (λ e. z (h.rest ∙ e)))

      pub setting-next : {x after : ℕ} → x ≡ f q → after ≡ ones_past left (q + 1) → Setting f ones before (set slots q x) after (q + 1)
      setting-next {x} {after} e r = record {
        word = omega (arith, found.inside);
        rest = r ∙ ap (λ (w : ℕ). ones_past w (q + 1)) h.rest ∙ past-on ones p (q + 1) (omega (arith, found.on));
        many = simp length-set h.many;
        set-ones = λ i l o. at_one i l o (eqb i q) refl;
        others = λ i l o. get_or-set_other slots q i x 0 (λ m. true≢false (sym found.one ∙ ap (digit ones) (sym m) ∙ o (omega arith))) ∙ h.others i l (λ g. o (omega (arith, found.on)));
      }
        where
          at_one : (i : ℕ) → i < q + 1 → digit ones i ≡ true → (b : Bool) → eqb i q ≡ b → get_or (set slots q x) i 0 ≡ f i
          at_one i l o true m = let d : i ≡ q = eqb-true i q m in rw d (get_or-set_same slots q x 0 (omega (arith, found.inside, h.many)) ∙ e)
          at_one i l o false m =
              let d : i ≡ q → ⊥ = eqb-false i q m in
              get_or-set_other slots q i x 0 d ∙ h.set-ones i (lt_of_not-le (λ g. true≢false (sym o ∙ found.zeros i g (omega arith)))) o

-- as many ones before the lowest one from a place on as before that place, and one more behind it
module _ {ones p q : ℕ} (l : Lowest ones p q) where
  pub count-there : count_below (digit ones) q ≡ count_below (digit ones) p
  count-there =
      let e : p + (q - p) ≡ q = omega (arith, l.on) in
      omega (arith, rw e at (count_add (digit ones) p (q - p)), ap length (ones-nil (digit ones) (q - p) p (λ i a b. l.zeros i a (omega arith))))

  pub count_next : (number : ℕ) {k : ℕ} → k ≡ number + count_below (digit ones) p → k + 1 ≡ number + count_below (digit ones) (q + 1)
  count_next number e = omega (arith, e, count-there, rw (← add-one q) at (count-suc-one (digit ones) q l.one))

  -- its stored value, and that it lies in the file
  module _ (s : List ℕ) (c : Coding) (start number : ℕ) {k : ℕ} (e : k ≡ number + count_below (digit ones) p) where
    pub value_there : InFile s c start number (count_below (digit ones) 64) → InRun s c start k
    value_there f = rw (e, ← count-there) (one-in-file _ f (count-strict (digit ones) q 64 l.one l.inside))

    pub value-is : {x : ℕ} → x ≡ stored_value s c.width (start + k * c.width) → x ≡ in_order s c start number ones q
    value-is d = d ∙ ap (λ (n : ℕ). stored_value s c.width (start + n * c.width)) (omega (arith, e, count-there))
