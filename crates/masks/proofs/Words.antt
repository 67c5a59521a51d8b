-- Laws of the words of a mask: what a count, a search or a comparison by words says of the places.
use mathlib.Core.Path.{◌≡◌, refl, sym, ap, ◌∙◌}
use mathlib.Core.Bool.{Bool, true, false, not, ◌&&◌, beq, true≢false}
use mathlib.Core.Logic.{◌↔◌}
use Rattle.std.proofs.Common.{Some}
use mathlib.Core.List.{List, [], ◌∷◌, ◌++◌}
use Prim.Native.Nat.{ℕ, ◌+◌, ◌-◌, ◌*◌, ◌/◌, ◌%◌, ◌^◌, ◌≤◌, ◌<◌}
use native.Mathlib.Nat.{add-zero, zero-add, mod-eq_of_lt, lt_of_not-le, lt_of_le_of_lt, div-le_self}
use native.Mathlib.Omega.{arith}
use lib.Dec.{eqb}
use lib.ListN.{length}
use lib.Bits.{bit_and, and_le_l}
use lib.Count.{count_trailing_zeros}
use lib.Count
use borrow.Author.Tests.{not-false, eqb-true, eqb-false}
use Rattle.fields.specs.Le.{byte_at, u64_at}
use Rattle.masks.specs.Masks.{digit, mask_bit, ones_from, ones, count_below, is_nil, agree, overlap}
use Rattle.masks.specs.Inner.{next_one, IsWord}
use Rattle.coordinates.specs.Coordinates.{index}
use Rattle.masks.proofs.Laws.{ones-append, ones-nil, nil-zero, ones-ext, length_shift, count_add, none_below, is_nil-true, differ-false, next_here, next-later}
use Rattle.masks.proofs.Digits.{digit_shift, digit-past, same_digits, zero-digits, word_lt, word-digit, mask-shift, count-digits, and-digit, trailing-zero, trailing-one, trailing_lt}

-- The u64 that starts i bytes into a mask holds the 64 places from 8 * i on.
pub is_word : (s : List ℕ) → ((i : ℕ) → byte_at s i < 256) → (at i : ℕ) → IsWord (mask_bit s at) (8 * i) (u64_at s (at + i))
is_word s bytes at i = record {
  below = word_lt s bytes (at + i);
  bits = λ q l. word-digit s bytes (at + i) q l ∙ mask-shift s at i q;
}

module _ (f : ℕ → Bool) (p w : ℕ) (h : IsWord f p w) where
  -- The ones of the first r places, counted on from those below p; r is 64 for the whole word.
  pub count-part : (r : ℕ) → r ≤ 64 → Count.ones (w % 2 ^ r) ≡ length (ones_from f p r)
  count-part r l =
      count-digits r w ∙ ap length (ones-ext (digit w) (λ q. f (p + q)) r 0 (λ q _ g. h.bits q (omega arith)))
      ∙ rw add-zero at (length_shift f p r 0)

  pub count-on : (r x q : ℕ) → r ≤ 64 → x ≡ w % 2 ^ r → p + r ≡ q → count_below f p + Count.ones x ≡ count_below f q
  count-on r x q l e k = rw (e, count-part r l, ← k, count_add f p r)

  pub whole : w ≡ w % 2 ^ 64
  whole = sym (mod-eq_of_lt h.below)

  -- The next one from bit r on, x being the word shifted down by r; r is 0 for the whole word.
  module _ (r x q : ℕ) (e : x ≡ w / 2 ^ r) (k : p + r ≡ q) where
    shifted : (j : ℕ) → digit x j ≡ digit w (r + j)
    shifted j = rw e (digit_shift w r j)

    place-bit : (j : ℕ) → q ≤ j → j < p + 64 → f j ≡ digit x (j - q)
    place-bit j l g =
        let d : r + (j - q) ≡ j - p = omega arith in
        let i : p + (j - p) ≡ j = omega arith in
        sym (shifted (j - q) ∙ rw (d, h.bits (j - p) (omega arith), i))

    -- none is left in the word
    zeros-from : x ≡ 0 → ones_from f q (p + 64 - q) ≡ []
    zeros-from z = ones-nil f (p + 64 - q) q (λ j l g. place-bit j l (omega arith) ∙ rw z (digit-past 0 0 _ (omega arith) (omega arith)))

    pub next-past-word : (n : ℕ) → r ≤ 64 → p + 64 ≤ n → x ≡ 0 → next_one f n q ≡ next_one f n (p + 64)
    next-past-word n b l z = next-later f n q (p + 64) (omega arith) l (zeros-from z)

    -- or it is the lowest bit of x
    module _ (z : x ≡ 0 → ⊥) where
      abbrev t : ℕ
      t = count_trailing_zeros 64 x

      lowest : digit w (r + t) ≡ true
      lowest =
          let small : x < 2 ^ 64 = rw e (lt_of_le_of_lt (div-le_self w (2 ^ r)) h.below) in
          sym (shifted t) ∙ trailing-one 64 x (trailing_lt 64 x small z)

      inside : r + t < 64
      inside = lt_of_not-le (λ (g : 64 ≤ r + t). true≢false (sym lowest ∙ digit-past 64 w (r + t) h.below g))

      next_bit : f (q + t) ≡ true
      next_bit =
          let i : q + t ≡ p + (r + t) = omega arith in
          rw i (sym (h.bits (r + t) inside) ∙ lowest)

      next-clear : ones_from f q (q + t - q) ≡ []
      next-clear = ones-nil f (q + t - q) q (λ j l g. place-bit j l (omega (arith, inside)) ∙ trailing-zero 64 x _ (omega arith))

      pub next-in-word : (n : ℕ) → p + 64 ≤ n → next_one f n q ≡ Some (index (q + t))
      next-in-word n l =
          let b = inside in
          next-later f n q (q + t) (omega arith) (omega arith) next-clear ∙ next_here f n (q + t) next_bit (omega arith)

  -- The word is 0 exactly where its places are zeros.
  pub word-zero : (w ≡ 0) ↔ (ones_from f p 64 ≡ [])
  word-zero =
      let k : p + 64 - p ≡ 64 = omega arith in (
        λ e. rw k at (zeros-from 0 w p (omega arith) (add-zero p) e),
        λ e. zero-digits 64 w h.below (λ q g. h.bits q g ∙ nil-zero f 64 p (p + q) e (omega arith) (omega arith)),
      )

-- Two words of the same places: they share no bit, or are equal, exactly where the places say so.
module _ (f g : ℕ → Bool) (p w v : ℕ) (h : IsWord f p w) (k : IsWord g p v) where
  both_word : IsWord (λ q. f q && g q) p (bit_and w v)
  both_word = record {
    below = lt_of_le_of_lt (and_le_l w v) h.below;
    bits = λ q l. and-digit w v q ∙ rw (h.bits q l, k.bits q l);
  }

  pub words-apart : (bit_and w v ≡ 0) ↔ (ones_from (λ q. f q && g q) p 64 ≡ [])
  words-apart = word-zero (λ q. f q && g q) p (bit_and w v) both_word

  pub words_same : (w ≡ v) ↔ (ones_from (λ q. not (beq (f q) (g q))) p 64 ≡ [])
  words_same = (
    λ e. ones-nil _ 64 p (λ q l b.
        let i : p + (q - p) ≡ q = omega arith in
        (differ-false (f q) (g q)).1 (rw (i, e) at (sym (h.bits (q - p) (omega arith))) ∙ rw i at (k.bits (q - p) (omega arith)))),
    λ e. same_digits 64 w v h.below k.below (λ q b.
        h.bits q b ∙ (differ-false (f (p + q)) (g (p + q))).0 (nil-zero _ 64 p (p + q) e (omega arith) (omega arith)) ∙ sym (k.bits q b)),
  )

-- zeros alone below p, and in the k places from p on
nil-on : (f : ℕ → Bool) (p k : ℕ) → is_nil (ones f p) ≡ true → ones_from f p k ≡ [] → is_nil (ones f (p + k)) ≡ true
nil-on f p k a b = rw (ones-append f p 0 k, zero-add, is_nil-true (ones f p) a, b)

-- a one in the k places from p on
some-here : (f : ℕ → Bool) (p k n : ℕ) → p + k ≤ n → (ones_from f p k ≡ [] → ⊥) → is_nil (ones f n) ≡ false
some-here f p k n l z = go (is_nil (ones f n)) refl
  where
    go : (b : Bool) → is_nil (ones f n) ≡ b → b ≡ false
    go true e = absurd (z (ones-nil f k p (λ q a b. (none_below f n).0 e q (omega arith))))
    go false e = refl

is_nil-append : (l m : List ℕ) → is_nil (l ++ m) ≡ is_nil l && is_nil m
is_nil-append [] m = refl
is_nil-append (p ∷ l) m = refl

not-nil : (l : List ℕ) → (l ≡ [] → ⊥) → is_nil l ≡ false
not-nil [] z = absurd (z refl)
not-nil (p ∷ l) z = refl

-- The masks compared by one word more.
module _ (f g : ℕ → Bool) (p w v : ℕ) (h : IsWord f p w) (k : IsWord g p v) where
  pub overlap-on : overlap f g p ≡ false → bit_and w v ≡ 0 → overlap f g (p + 64) ≡ false
  overlap-on a e = ap not (nil-on _ p 64 (not-false _ a) ((words-apart f g p w v h k).0 e))

  pub overlap-here : (n : ℕ) → p + 64 ≤ n → (bit_and w v ≡ 0 → ⊥) → overlap f g n ≡ true
  overlap-here n l z = ap not (some-here _ p 64 n l (λ e. z ((words-apart f g p w v h k).1 e)))

  pub agree_on : agree f g p && eqb w v ≡ agree f g (p + 64)
  agree_on = rw (ones-append (λ q. not (beq (f q) (g q))) p 0 64, zero-add, is_nil-append) (ap (λ t. agree f g p && t) (go (eqb w v) refl))
    where
      go : (t : Bool) → eqb w v ≡ t → t ≡ is_nil (ones_from (λ q. not (beq (f q) (g q))) p 64)
      go true e = sym (ap is_nil ((words_same f g p w v h k).0 (eqb-true w v e)))
      go false e = sym (not-nil _ (λ z. eqb-false w v e ((words_same f g p w v h k).1 z)))
