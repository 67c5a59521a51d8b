-- Laws of a number's binary digits, and of the words of a mask.
use mathlib.Core.Path.{◌≡◌, refl, sym, ap, ◌∙◌}
use mathlib.Core.Bool.{Bool, true, false, ◌&&◌, cond}
use mathlib.Core.List.{List}
use Prim.Native.Nat.{ℕ, zero, suc, ◌+◌, ◌-◌, ◌*◌, ◌/◌, ◌%◌, ◌^◌, ◌≤◌, ◌<◌, min}
use native.Mathlib.Nat.{pow-suc, mod-lt, div-eq_of_lt, lt_of_lt_of_le, lt_of_not-le, not-suc-le-zero, le_of_suc-le-suc, zero-min}
use native.Mathlib.Decide.{dec_lt}
use native.Mathlib.Numerals.{towards_suc}
use native.Mathlib.Omega.{arith}
use lib.Dec.{eqb}
use lib.Pow.{pow_pos, pow_mono, shr-shr, field, mod-mod-pow, mod-pow-add}
use lib.Bits.{bit_and, and_step, and_shr}
use lib.Count.{count_trailing_zeros, under, ones_cat}
use lib.Count
use Rattle.fields.specs.Le.{byte_at, u64_at}
use Rattle.masks.specs.Masks.{digit, mask_bit, count_below}
use Rattle.masks.proofs.Laws.{ones_none, count-suc}

-- the digits from r on are those of what is shifted down by r
pub digit_shift : (w r q : ℕ) → digit (w / 2 ^ r) q ≡ digit w (r + q)
unfolding digit
digit_shift w r q = rw (shr-shr w r q)

-- the digits below k are those of the remainder by 2 ^ k
pub digit-mod : (w k q : ℕ) → q < k → digit (w % 2 ^ k) q ≡ digit w q
unfolding digit
digit-mod w k q h =
    let e : k ≡ suc (k - suc q) + q = omega arith in
    let j : suc (k - suc q) ≡ k - suc q + 1 = omega arith in
    rw (e, field w (suc (k - suc q)) q, j, mod-mod-pow (w / 2 ^ q) (k - suc q) 1)

-- past a number's length they are zeros
pub digit-past : (k w q : ℕ) → w < 2 ^ k → k ≤ q → digit w q ≡ false
unfolding digit
digit-past k w q h l = rw (div-eq_of_lt (lt_of_lt_of_le h (pow_mono l)))

-- a digit as a number
bit-back : (x : ℕ) → x < 2 → cond (eqb x 1) 1 0 ≡ x
bit-back zero h = refl
bit-back (suc zero) h = refl
bit-back (suc (suc x)) h = absurd (omega arith)

digit_value : (w q : ℕ) → cond (digit w q) 1 0 ≡ w / 2 ^ q % 2
unfolding digit
digit_value w q = bit-back (w / 2 ^ q % 2) (omega arith)

low_digit : (w : ℕ) → cond (digit w 0) 1 0 ≡ w % 2
low_digit w = omega (arith, digit_value w 0)

half_lt : (k a : ℕ) → a < 2 ^ suc k → a / 2 < 2 ^ k
half_lt k a h = omega (arith, rw pow-suc at h)

-- numbers of k digits are equal where their digits are
pub same_digits : (k a b : ℕ) → a < 2 ^ k → b < 2 ^ k → ((q : ℕ) → q < k → digit a q ≡ digit b q) → a ≡ b
same_digits zero a b ha hb e = omega arith
same_digits (suc k) a b ha hb e =
    let up : (q : ℕ) → q < k → digit (a / 2) q ≡ digit (b / 2) q = λ q h. digit_shift a 1 q ∙ e (1 + q) (omega arith) ∙ sym (digit_shift b 1 q) in
    let rest : a / 2 ≡ b / 2 = same_digits k (a / 2) (b / 2) (half_lt k a ha) (half_lt k b hb) up in
    let low : a % 2 ≡ b % 2 = sym (low_digit a) ∙ ap (λ (t : Bool). cond t 1 0) (e 0 (omega arith)) ∙ low_digit b in
    omega arith

-- a number of k digits, all zeros
pub zero-digits : (k a : ℕ) → a < 2 ^ k → ((q : ℕ) → q < k → digit a q ≡ false) → a ≡ 0
zero-digits k a h z = same_digits k a 0 h (pow_pos k) (λ q l. z q l ∙ sym (digit-past 0 0 q (omega arith) (omega arith)))

-- the ones of a number's r lowest digits
ones_bit : (x : ℕ) → x < 2 → Count.ones x ≡ x
unfolding Count.ones
ones_bit zero h = refl
ones_bit (suc zero) h = refl
ones_bit (suc (suc x)) h = absurd (omega arith)

pub count-digits : (r w : ℕ) → Count.ones (w % 2 ^ r) ≡ count_below (digit w) r
count-digits zero w =
    let e : w % 1 ≡ 0 = omega arith in
    rw (e, ones_none (digit w) 0) (ones_bit 0 (omega arith))
count-digits (suc r) w =
    let e : suc r ≡ 1 + r = omega arith in
    let c : Count.ones (w % 2 ^ suc r) ≡ Count.ones (w / 2 ^ r % 2) + Count.ones (w % 2 ^ r) =
    rw (e, mod-pow-add w 1 r) (ones_cat r (w / 2 ^ r % 2) (w % 2 ^ r) (mod-lt w (pow_pos r))) in
    omega (arith, c, ones_bit (w / 2 ^ r % 2) (omega arith), count-digits r w, count-suc (digit w) r, digit_value w r)

-- the digits of the bits that two numbers share
both_bits : (x y : ℕ) → x < 2 → y < 2 → eqb (min x y) 1 ≡ eqb x 1 && eqb y 1
both_bits zero y h l = rw zero-min
both_bits (suc zero) zero h l = refl
both_bits (suc zero) (suc zero) h l = refl
both_bits (suc zero) (suc (suc y)) h l = absurd (omega arith)
both_bits (suc (suc x)) y h l = absurd (omega arith)

pub and-digit : (a b q : ℕ) → digit (bit_and a b) q ≡ digit a q && digit b q
unfolding digit
and-digit a b q =
    let e : bit_and (a / 2 ^ q) (b / 2 ^ q) % 2 ≡ min (a / 2 ^ q % 2) (b / 2 ^ q % 2) = omega (arith, and_step (a / 2 ^ q) (b / 2 ^ q)) in
    rw (and_shr a b q, e) (both_bits (a / 2 ^ q % 2) (b / 2 ^ q % 2) (omega arith) (omega arith))

-- the zeros below the lowest one, and that one
low-false : (x : ℕ) → x % 2 ≡ 0 → digit x 0 ≡ false
unfolding digit
low-false x e = let h : x / 1 % 2 ≡ 0 = omega arith in rw h

low-true : (x d : ℕ) → x % 2 ≡ suc d → digit x 0 ≡ true
unfolding digit
low-true x d e = let h : x / 1 % 2 ≡ 1 = omega arith in rw h

pub digit-suc : (x q : ℕ) → digit x (suc q) ≡ digit (x / 2) q
digit-suc x q = let e : suc q ≡ 1 + q = omega arith in rw e (sym (digit_shift x 1 q))

pub trailing-zero : (k x j : ℕ) → j < count_trailing_zeros k x → digit x j ≡ false
unfolding count_trailing_zeros
trailing-zero zero x j h = absurd (not-suc-le-zero h)
trailing-zero (suc k) x j h = go (λ i. trailing-zero k (x / 2) i) (x % 2) refl j h
  where
    go : ((i : ℕ) → i < count_trailing_zeros k (x / 2) → digit (x / 2) i ≡ false) → (d : ℕ) → x % 2 ≡ d
        → (j : ℕ) → j < under d (count_trailing_zeros k (x / 2)) → digit x j ≡ false
    go rest zero e zero h = low-false x e
    go rest zero e (suc i) h = digit-suc x i ∙ rest i (le_of_suc-le-suc h)
    go rest (suc d) e j h = absurd (not-suc-le-zero h)

pub trailing-one : (k x : ℕ) → count_trailing_zeros k x < k → digit x (count_trailing_zeros k x) ≡ true
unfolding count_trailing_zeros
trailing-one zero x h = absurd (not-suc-le-zero h)
trailing-one (suc k) x h = go (trailing-one k (x / 2)) (x % 2) refl h
  where
    go : (count_trailing_zeros k (x / 2) < k → digit (x / 2) (count_trailing_zeros k (x / 2)) ≡ true) → (d : ℕ) → x % 2 ≡ d
        → under d (count_trailing_zeros k (x / 2)) < suc k → digit x (under d (count_trailing_zeros k (x / 2))) ≡ true
    go rest zero e h = digit-suc x _ ∙ rest (le_of_suc-le-suc h)
    go rest (suc d) e h = low-true x d e

pub trailing_lt : (k x : ℕ) → x < 2 ^ k → (x ≡ 0 → ⊥) → count_trailing_zeros k x < k
trailing_lt k x h z =
    lt_of_not-le (λ (l : k ≤ count_trailing_zeros k x). z (zero-digits k x h (λ q g. trailing-zero k x q (lt_of_lt_of_le g l))))

-- a number below 256 and what stands above it
byte_low : (b r q : ℕ) → b < 256 → q < 8 → digit (b + 256 * r) q ≡ digit b q
byte_low b r q h l =
    let e : (b + 256 * r) % 256 ≡ b = omega arith in
    rw e at (sym (digit-mod (b + 256 * r) 8 q l))

byte_high : (b r q : ℕ) → b < 256 → 8 ≤ q → digit (b + 256 * r) q ≡ digit r (q - 8)
byte_high b r q h l =
    let e : (b + 256 * r) / 256 ≡ r = omega arith in
    let k : 8 + (q - 8) ≡ q = omega arith in
    rw (k, e) at (sym (digit_shift (b + 256 * r) 8 (q - 8)))

-- the mask i bytes on
pub mask-shift : (s : List ℕ) (at i q : ℕ) → mask_bit s (at + i) q ≡ mask_bit s at (8 * i + q)
unfolding mask_bit
mask-shift s at i q =
    let d : at + (8 * i + q) / 8 ≡ at + i + q / 8 = omega arith in
    let m : (8 * i + q) % 8 ≡ q % 8 = omega arith in
    rw (d, m)

-- The document's words: bit q of the u64 at a position is the bit of place q of the mask there.
module _ (s : List ℕ) (bytes : (i : ℕ) → byte_at s i < 256) where
  -- the number of k bytes from at on
  le_at : ℕ → ℕ → ℕ
  le_at zero at = 0
  le_at (suc k) at = byte_at s at + 256 * le_at k (suc at)

  u64-le : (at : ℕ) → u64_at s at ≡ le_at 8 at
  unfolding le_at u64_at
  u64-le at = simp towards_suc (omega arith)

  le-digit : (k at q : ℕ) → q < 8 * k → digit (le_at k at) q ≡ mask_bit s at q
  unfolding mask_bit le_at
  le-digit zero at q h = absurd (omega arith)
  le-digit (suc k) at q h = go (λ l. le-digit k (suc at) (q - 8) l) (dec_lt q 8)
    where
      go : (q - 8 < 8 * k → digit (le_at k (suc at)) (q - 8) ≡ mask_bit s (suc at) (q - 8)) → Dec (q < 8)
          → digit (byte_at s at + 256 * le_at k (suc at)) q ≡ mask_bit s at q
      go rest (yes l) =
          let d : at + q / 8 ≡ at = omega arith in
          let m : q % 8 ≡ q = omega arith in
          rw (d, m) (byte_low (byte_at s at) (le_at k (suc at)) q (bytes at) l)
      go rest (no l) =
          let d : at + q / 8 ≡ suc at + (q - 8) / 8 = omega arith in
          let m : q % 8 ≡ (q - 8) % 8 = omega arith in
          rw (d, m) (byte_high (byte_at s at) (le_at k (suc at)) q (bytes at) (omega arith) ∙ rest (omega arith))

  pub word_lt : (at : ℕ) → u64_at s at < 2 ^ 64
  unfolding u64_at
  word_lt at =
      omega
      (arith, bytes at, bytes (at + 1), bytes (at + 2), bytes (at + 3), bytes (at + 4), bytes (at + 4 + 1), bytes (at + 4 + 2), bytes (at + 4 + 3))

  pub word-digit : (at q : ℕ) → q < 64 → digit (u64_at s at) q ≡ mask_bit s at q
  word-digit at q h = rw (u64-le at) (le-digit 8 at q h)
