-- The ones of a word, taken one by one from the lowest on, each where it was; and a word's complement.
use mathlib.Core.Path.{◌≡◌, refl, sym, ap, ◌∙◌}
use mathlib.Core.Bool.{Bool, true, false, not, true≢false}
use Prim.Native.Nat.{ℕ, zero, suc, ◌+◌, ◌-◌, ◌*◌, ◌/◌, ◌%◌, ◌^◌, ◌≤◌, ◌<◌}
use native.Mathlib.Nat.{lt_of_not-le, lt_of_le_of_lt, div-mul-le_self, pow-suc, mul_assoc, zero-min, zero-div}
use native.Mathlib.Numerals.{one-add}
use native.Mathlib.Omega.{arith}
use lib.Count.{count_trailing_zeros, under}
use lib.Dec.{eqb}
use lib.Bits.{bit_and, and_step, and_self, shifted_half, shifted_even}
use lib.Pow.{shl-shr, shr-shr}
use borrow.Author.Tests.{eq-eqb, ne_eqb, eqb-true, eqb-false}
use Rattle.masks.specs.Masks.{digit}
use Rattle.masks.specs.Inner.{ones_past}
use Rattle.masks.proofs.Digits.{digit_shift, digit-past, digit-suc, trailing-zero, trailing-one, trailing_lt}

-- The lowest one is taken off.
pub lowest-off : (k x : ℕ) → (x ≡ 0 → ⊥) → x < 2 ^ k → bit_and x (x - 1) ≡ ones_past x (suc (count_trailing_zeros k x))
unfolding count_trailing_zeros
lowest-off zero x n h = absurd (n (omega arith))
lowest-off (suc k) x n h = go (lowest-off k (x / 2)) (x % 2) refl
  where
    some-set : 0 < x
    some-set = lt_of_not-le (λ l. n (omega arith))

    go : ((x / 2 ≡ 0 → ⊥) → x / 2 < 2 ^ k → bit_and (x / 2) (x / 2 - 1) ≡ ones_past (x / 2) (suc (count_trailing_zeros k (x / 2)))) → (d : ℕ) → x % 2 ≡ d →
        bit_and x (x - 1) ≡ ones_past x (suc (under d (count_trailing_zeros k (x / 2))))
    go later zero e =
        let t = suc (count_trailing_zeros k (x / 2)) in
        let half : (x - 1) / 2 ≡ x / 2 - 1 = omega (arith, some-set) in
        let off = rw (shr-shr x 1 t) at (later (λ z. n (omega arith)) (omega (arith, h, pow-suc 2 k))) in
        let twice : x / 2 ^ suc t * 2 ^ suc t ≡ x / 2 ^ suc t * 2 ^ t * 2 = ap (λ (n : ℕ). x / 2 ^ suc t * n) (pow-suc 2 t) ∙ sym (mul_assoc (x / 2 ^ suc t) (2 ^ t) 2) in
        omega (arith, rw (half, e, zero-min) at (and_step x (x - 1)), rw (one-add t) at off, twice)
    go later (suc d) e =
        let half : (x - 1) / 2 ≡ x / 2 = omega (arith, some-set) in
        let low : (x - 1) % 2 ≡ 0 = omega (arith, some-set) in
        omega (arith, rw (half, and_self (x / 2)) at (and_step x (x - 1)), low)

-- below bit p there are none
none_below : (m p j : ℕ) → j < p → digit (m * 2 ^ p) j ≡ false
unfolding digit
none_below m zero j h = absurd (omega arith)
none_below m (suc p) zero h = ne_eqb (m * 2 ^ suc p / 1 % 2) 1 (λ e. omega (arith, shifted_even m p, e))
none_below m (suc p) (suc j) h = rw (one-add j) at (sym (digit_shift (m * 2 ^ suc p) 1 j)) ∙ ap (λ (x : ℕ). digit x j) (shifted_half m p) ∙ none_below m p j (omega arith)

-- a one with zeros below it is the lowest
trailing-is : (k x q : ℕ) → q < k → digit x q ≡ true → ((j : ℕ) → j < q → digit x j ≡ false) → count_trailing_zeros k x ≡ q
trailing-is k x q h one zeros =
    let a : count_trailing_zeros k x < suc q = lt_of_not-le (λ l. true≢false (sym one ∙ trailing-zero k x q l)) in
    let b : q < suc (count_trailing_zeros k x) = lt_of_not-le (λ l. true≢false (sym (trailing-one k x (omega arith)) ∙ zeros (count_trailing_zeros k x) l)) in
    omega arith

-- from there on they are as they were
past-digit : (v p i : ℕ) → p ≤ i → digit (ones_past v p) i ≡ digit v i
past-digit v p i h =
    let e : p + (i - p) ≡ i = omega arith in
    rw e at (sym (digit_shift (ones_past v p) p (i - p)) ∙ ap (λ (x : ℕ). digit x (i - p)) (shl-shr (v / 2 ^ p) p) ∙ digit_shift v p (i - p))

-- the lowest one from bit p on: where it is, and that there is none before it
pub record Lowest (v p q : ℕ) : Type 0 where
  pub on : p ≤ q
  pub inside : q < 64
  pub one : digit v q ≡ true
  pub zeros : (i : ℕ) → p ≤ i → i < q → digit v i ≡ false

pub lowest : (v p : ℕ) → v < 2 ^ 64 → (ones_past v p ≡ 0 → ⊥) → Lowest v p (count_trailing_zeros 64 (ones_past v p))
lowest v p small some-set =
    let q = count_trailing_zeros 64 (ones_past v p) in
    let inside : q < 64 = trailing_lt 64 (ones_past v p) (lt_of_le_of_lt (div-mul-le_self v (2 ^ p)) small) some-set in
    let here : digit (ones_past v p) q ≡ true = trailing-one 64 (ones_past v p) inside in
    let before : p < suc q = lt_of_not-le (λ l. true≢false (sym here ∙ none_below (v / 2 ^ p) p q l)) in
    let on : p ≤ q = omega arith in
    record {
      on = on;
      inside = inside;
      one = sym (past-digit v p q on) ∙ here;
      zeros = λ i l h. sym (past-digit v p i l) ∙ trailing-zero 64 (ones_past v p) i h;
    }

-- none from bit p on
pub none-there : (v p : ℕ) → ones_past v p ≡ 0 → (i : ℕ) → p ≤ i → digit v i ≡ false
none-there v p e i l = sym (past-digit v p i l) ∙ ap (λ (x : ℕ). digit x i) e ∙ digit-past 0 0 i (omega arith) (omega arith)

pub none_left : (v p : ℕ) → ones_past v p ≡ 0 → v / 2 ^ p ≡ 0
none_left v p e = sym (shl-shr (v / 2 ^ p) p) ∙ ap (λ (x : ℕ). x / 2 ^ p) e ∙ zero-div (2 ^ p)

-- the lowest one from bit p on, as a place counted from there
pub lowest-past : (v p : ℕ) → v < 2 ^ 64 → (v / 2 ^ p ≡ 0 → ⊥) → count_trailing_zeros 64 (ones_past v p) ≡ p + count_trailing_zeros 64 (v / 2 ^ p)
lowest-past v p small some-set =
    let q = count_trailing_zeros 64 (ones_past v p) in
    let l = lowest v p small (λ e. some-set (none_left v p e)) in
    let e : p + (q - p) ≡ q = omega (arith, l.on) in
    let gap : count_trailing_zeros 64 (v / 2 ^ p) ≡ q - p =
    trailing-is 64 (v / 2 ^ p) (q - p) (omega (arith, l.inside)) (digit_shift v p (q - p) ∙ rw e l.one) (λ j h. digit_shift v p j ∙ l.zeros (p + j) (omega arith) (omega arith)) in
    omega arith

-- ones from bit p on, and of these the ones from bit q on
pub past-on : (v p q : ℕ) → p ≤ q → ones_past (ones_past v p) q ≡ ones_past v q
past-on v p q l =
    let d = q - p in
    let e : p + d ≡ q = omega arith in
    rw e at (ap (λ (x : ℕ). x * 2 ^ (p + d)) (sym (shr-shr (ones_past v p) p d) ∙ ap (λ (x : ℕ). x / 2 ^ d) (shl-shr (v / 2 ^ p) p) ∙ shr-shr v p d))

-- a bit of a number, by its lowest bit
pub low_bit : (x : ℕ) → digit x 0 ≡ eqb (x % 2) 1
unfolding digit
low_bit x = let e : x / 1 ≡ x = omega arith in ap (λ (y : ℕ). eqb (y % 2) 1) e

turned : (x y : ℕ) → x % 2 + y % 2 ≡ 1 → eqb (x % 2) 1 ≡ not (eqb (y % 2) 1)
turned x y h = go (eqb (y % 2) 1) refl
  where
    go : (b : Bool) → eqb (y % 2) 1 ≡ b → eqb (x % 2) 1 ≡ not b
    go true e = ne_eqb (x % 2) 1 (λ f. omega (arith, eqb-true (y % 2) 1 e))
    go false e = eq-eqb (x % 2) 1 (omega (arith, eqb-false (y % 2) 1 e))

-- what a word and another add up to, all ones: each has the ones that the other lacks
pub complement : (k q a b : ℕ) → a + b + 1 ≡ 2 ^ k → q < k → digit a q ≡ not (digit b q)
complement zero q a b e h = absurd (omega arith)
complement (suc k) zero a b e h = low_bit a ∙ turned a b (omega (arith, pow-suc 2 k)) ∙ ap not (sym (low_bit b))
complement (suc k) (suc q) a b e h =
    digit-suc a q ∙ complement k q (a / 2) (b / 2) (omega (arith, pow-suc 2 k)) (omega arith) ∙ ap not (sym (digit-suc b q))
