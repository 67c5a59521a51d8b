-- Laws of words, places and slots, by which the functions' proofs go.
use mathlib.Core.Path.{◌≡◌, refl, sym, ap, ap₂, ◌∙◌}
use mathlib.Core.List.{List, [], ◌∷◌, ◌++◌, append_assoc, append-nil}
use mathlib.Core.Bool.{Bool, true, false, not}
use Prim.Native.Nat.{ℕ, zero, suc, ◌+◌, ◌-◌, ◌*◌, ◌^◌, ◌≤◌, ◌<◌}
use native.Mathlib.Nat.{zero-add, add-zero, add-suc, suc-add, mul-le-mul_right}
use native.Mathlib.Omega.{arith}
use lib.ListN.{length, take, get_or, length-append}
use lib.Seq.{take_at, take_all, length-take-le}
use borrow.Rule.Slice.PartMut.{mid_of, mid_len}
use Rattle.fields.specs.Parse.{when}
use Rattle.half.specs.Half.{stored_value}
use Rattle.masks.specs.Masks.{digit, mask_bit, count_below}
use Rattle.masks.specs.Inner.{IsWord}
use Rattle.masks.proofs.Laws.{ones-nil, zeros-add, count_add, count-le, count-mono}
use Rattle.masks.proofs.Digits.{digit-past, count-digits}
use Rattle.masks.proofs.Words.{count-part}
use Rattle.masks.proofs.Ones.{complement}
use Rattle.forms.specs.declared.Coding.{Coding}
use Rattle.forms.specs.declared.Inactives.{Inactives}
use Rattle.std.proofs.Common.{Some, None}
use Rattle.forms.specs.declared.Stored.TheVariants.{Every, Active, Childless}
use Rattle.runs.specs.Runs.{is_stored, number_of}
use Rattle.runs.specs.Inner.{Held}
use Rattle.runs.specs.declared.Values.{Values}
use Rattle.values.specs.Values.{is_selected, inactive_value, place_value, values_from}
use Rattle.values.proofs.Laws.{stored-place, other_place}
use Rattle.batch.specs.Inner.{ranged, numbered, in_order, InFile, OnesSet}
use Rattle.batch.proofs.Laws.{length-ranged, ranged-at}
use Rattle.expand.specs.Inner.{ZerosHeld}

-- A word's bits, from a position that is given as places or as bytes.
no_digit : (q : ℕ) → digit 0 q ≡ false
no_digit q = digit-past 0 0 q (omega arith) (omega arith)

module _ (s : List ℕ) (at p : ℕ) where
  -- all places are stored
  pub every-word : IsWord (is_stored s Every at at) p 18446744073709551615
  unfolding is_stored
  every-word = record {
    below = omega arith;
    bits = λ q l. complement 64 q 18446744073709551615 0 refl l ∙ ap not (no_digit q);
  }

  module _ (i : ℕ) {w : ℕ} (h : IsWord (mask_bit s at) (8 * i) w) (e : 8 * i ≡ p) where
    pub active-word : IsWord (is_stored s Active at at) p w
    unfolding is_stored
    active-word = rw e at h

    -- those whose bits are not set
    pub childless-word : IsWord (is_stored s Childless at at) p (18446744073709551615 - w)
    unfolding is_stored
    childless-word = record {
      below = omega arith;
      bits = λ q l. complement 64 q (18446744073709551615 - w) w (omega (arith, h.below)) l ∙ ap not ((rw e at h).bits q l);
    }

    pub at-word : IsWord (is_selected s (Some at)) p w
    unfolding is_selected
    at-word = rw e at h

  pub no_word : IsWord (is_selected s None) p 0
  unfolding is_selected
  no_word = record { below = omega arith; bits = λ q l. no_digit q }

-- What the places of a word hold that are not stored, by the bits of the selection mask: the selected ones are all of them, or are set after the others.
filled_at : (before : List ℕ) {slots : List ℕ} (x : ℕ) → length before ≡ 64 → slots ≡ ranged before 0 64 (λ i. x) → (i : ℕ) → i < 64 → get_or slots i 0 ≡ x
filled_at before x many e i l = ap (λ (l : List ℕ). get_or l i 0) e ∙ ranged-at before 0 64 (λ i. x) i (omega (arith, many)) l

bit-says : (s : List ℕ) (v : Inactives) {p w : ℕ} → IsWord (is_selected s v.selection) p w → (i : ℕ) → i < 64 → {b : Bool} → digit w i ≡ b → when b v.second v.first ≡ inactive_value s v (p + i)
unfolding inactive_value
bit-says s v h i l e = ap (λ (b : Bool). when b v.second v.first) (sym e ∙ h.bits i l)

module _ {s : List ℕ} {v : Inactives} {p w ones : ℕ} (h : IsWord (is_selected s v.selection) p w) (before : List ℕ) (many : length before ≡ 64) where
  pub others-selected : {slots : List ℕ} → ones < 2 ^ 64 → w ≡ 18446744073709551615 - ones → slots ≡ ranged before 0 64 (λ i. v.second) → ZerosHeld s v p ones slots
  unfolding when
  others-selected small z e = record {
    many = ap length e ∙ length-ranged before 0 64 (λ i. v.second) ∙ many;
    zeros = λ i l o. filled_at before v.second many e i l ∙ bit-says s v h i l (complement 64 i w ones (omega arith) l ∙ ap not o);
  }

  pub selected-set : (slots : List ℕ) {after : List ℕ} → slots ≡ ranged before 0 64 (λ i. v.first) → OnesSet (λ i. v.second) w slots after → ZerosHeld s v p ones after
  unfolding when
  selected-set slots {after} e o = record { many = o.many; zeros = λ i l z. go i l (digit w i) refl }
    where
      go : (i : ℕ) → i < 64 → (b : Bool) → digit w i ≡ b → get_or after i 0 ≡ inactive_value s v (p + i)
      go i l true d = o.set i l d ∙ bit-says s v h i l d
      go i l false d = o.kept i l d ∙ filled_at before v.first many e i l ∙ bit-says s v h i l d

-- Slots that hold the values of as many places one after the other hold them all.
module _ (s : List ℕ) (c : Coding) (child value : ℕ) (v : Values) where
  values-are : (xs : List ℕ) (p n : ℕ) → length xs ≡ n → ((i : ℕ) → i < n → get_or xs i 0 ≡ place_value s c child value v (p + i)) → xs ≡ values_from s c child value v p n
  unfolding values_from
  values-are [] p zero e h = refl
  values-are [] p (suc n) e h = absurd (omega arith)
  values-are (x ∷ xs) p zero e h = absurd (omega arith)
  values-are (x ∷ xs) p (suc n) e h =
      ap₂ ◌∷◌ (h 0 (omega arith) ∙ ap (place_value s c child value v) (add-zero p))
      (values-are xs (suc p) n (omega arith) (λ i l. h (suc i) (omega arith) ∙ ap (place_value s c child value v) (add-suc p i ∙ sym (suc-add p i))))

-- The places of a leaf's word, by the bits of those that are stored; k is the number of the next stored value before them.
module _ {s : List ℕ} {c : Coding} {value : ℕ} {v : Values} {p k ones : ℕ} (held : Held s c 64 value value v) (inside : p + 64 ≤ 512)
    (e : k ≡ number_of s v.stored value value p) (h : IsWord (is_stored s v.stored value value) p ones) where
  number_in : (i : ℕ) → i ≤ 64 → number_of s v.stored value value (p + i) ≡ k + count_below (digit ones) i
  number_in i l =
      let f = is_stored s v.stored value value in
      rw e (count_add f p i ∙ ap (λ (n : ℕ). count_below f p + n) (sym (count-part f p ones h i l) ∙ count-digits i ones))

  pub number_behind : {n : ℕ} → n ≡ k + count_below (digit ones) 64 → n ≡ number_of s v.stored value value (p + 64)
  number_behind d = d ∙ sym (number_in 64 (omega arith))

  pub in-file : InFile s c v.start k (count_below (digit ones) 64)
  in-file =
      let f = is_stored s v.stored value value in
      let n = number_in 64 (omega arith) in
      record {
        width = held.width;
        few = omega (arith, n, count-le f (p + 64));
        within = omega (arith, held.run, mul-le-mul_right c.width (count-mono f (p + 64) 512 inside), ap (λ (m : ℕ). m * c.width) n);
      }

  -- stored and inactive values together
  pub both : {before after : List ℕ} → ZerosHeld s v.inactives p ones before → OnesSet (in_order s c v.start k ones) ones before after → after ≡ values_from s c value value v p 64
  both {before} {after} z o = values-are s c value value v after p 64 o.many (λ i l. go i l (digit ones i) refl)
    where
      go : (i : ℕ) → i < 64 → (b : Bool) → digit ones i ≡ b → get_or after i 0 ≡ place_value s c value value v (p + i)
      go i l true d =
          o.set i l d ∙ ap (λ (n : ℕ). stored_value s c.width (v.start + n * c.width)) (sym (number_in i (omega arith)))
          ∙ sym (stored-place c s value value v (p + i) (sym (h.bits i l) ∙ d))
      go i l false d = o.kept i l d ∙ z.zeros i l d ∙ sym (other_place c s value value v (p + i) (sym (h.bits i l) ∙ d))

  -- all are stored
  module _ (full : ones ≡ 18446744073709551615) where
    all_ones : (i : ℕ) → i < 64 → digit ones i ≡ true
    all_ones i l = complement 64 i ones 0 (omega arith) l ∙ ap not (no_digit i)

    count-full : (i : ℕ) → i ≤ 64 → count_below (digit ones) i ≡ i
    count-full i l = omega (arith, zeros-add (digit ones) i, ap length (ones-nil (λ q. not (digit ones q)) i 0 (λ q a b. ap not (all_ones q (omega arith)))))

    pub full-in-file : InFile s c v.start k 64
    full-in-file = rw (count-full 64 (omega arith)) at in-file

    pub number-full : k + 64 ≡ number_of s v.stored value value (p + 64)
    number-full = omega (arith, number_in 64 (omega arith), count-full 64 (omega arith))

    pub copied : (before : List ℕ) {after : List ℕ} → length before ≡ 64 → after ≡ ranged before 0 64 (numbered s c v.start k) → after ≡ values_from s c value value v p 64
    copied before {after} m r = values-are s c value value v after p 64 (ap length r ∙ length-ranged before 0 64 _ ∙ m) (λ i l.
        ap (λ (l : List ℕ). get_or l i 0) r ∙ ranged-at before 0 64 _ i (omega (arith, m)) l
        ∙ ap (λ (n : ℕ). stored_value s c.width (v.start + n * c.width)) (omega (arith, number_in i (omega arith), count-full i (omega arith)))
        ∙ sym (stored-place c s value value v (p + i) (sym (h.bits i l) ∙ all_ones i l)))

-- A leaf's slots filled word by word: what is filled, with the values that are left, is the whole.
module _ (s : List ℕ) (c : Coding) (child value : ℕ) (v : Values) where
  values-add : (p m n : ℕ) → values_from s c child value v p (m + n) ≡ values_from s c child value v p m ++ values_from s c child value v (p + m) n
  unfolding values_from
  values-add p zero n = rw (zero-add, add-zero)
  values-add p (suc m) n = rw (suc-add m n, add-suc p m, ← suc-add p m) (ap (λ (l : List ℕ). place_value s c child value v p ∷ l) (values-add (suc p) m n))

  module _ {whole : List ℕ} (slots : List ℕ) (p : ℕ) (h : take p slots ++ values_from s c child value v p (512 - p) ≡ whole) where
    pub word_more : p + 64 ≤ 512 → {next : List ℕ} → next ≡ take p slots ++ values_from s c child value v p 64 → next ++ values_from s c child value v (p + 64) (512 - (p + 64)) ≡ whole
    word_more l e =
        let k : 512 - p ≡ 64 + (512 - (p + 64)) = omega arith in
        rw (e, append_assoc, ← values-add p 64 (512 - (p + 64)), ← k) h

    pub word-last : length slots ≡ 512 → 512 ≤ p → slots ≡ whole
    unfolding values_from
    word-last n l =
        let k : 512 - p ≡ 0 = omega arith in
        sym (take_all p slots (omega arith)) ∙ sym (append-nil (take p slots)) ∙ rw k at h

-- n slots lent from one on, and values put behind the first slots
pub lent : (at n : ℕ) (slots : List ℕ) → at + n ≤ length slots → length (mid_of at (at + n - at) slots) ≡ n
lent at n slots h = mid_len at (at + n) slots h ∙ omega arith

pub put-behind : (at n : ℕ) (slots values rest : List ℕ) → at ≤ length slots → length values ≡ n → take (at + n) (take at slots ++ (values ++ rest)) ≡ take at slots ++ values
put-behind at n slots values rest h m =
    let e : length (take at slots ++ values) ≡ at + n = simp (length-append, length-take-le at slots h) (omega arith) in
    rw (← append_assoc) (take_at (take at slots ++ values) rest (at + n) e)
