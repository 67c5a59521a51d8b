-- Laws of widening, in the order: what a half's value is, that binary32 holds it, the pattern of each kind of half, a subnormal half
-- worked out, the two widths, runs of normal halves.
use mathlib.Core.Path.{◌≡◌, refl, sym, ap, ap₂, ◌∙◌, subst}
use mathlib.Core.Bool.{Bool, true, false, not, ◌&&◌, cond}
use mathlib.Core.List.{List}
use Prim.Native.Nat.{ℕ, zero, suc, ◌+◌, ◌-◌, ◌*◌, ◌/◌, ◌%◌, ◌^◌, ◌≤◌, ◌<◌}
use native.Mathlib.Nat.{add-zero, le_of_lt, lt_of_lt_of_le, lt_irrefl, mul-one}
use native.Mathlib.Numerals.{add-one}
use native.Mathlib.Omega.{arith}
use lib.Dec.{T, leb, ltb, eqb, eqb→eq, leb→le, ltb→lt}
use lib.IntN.{ℤ}
use lib.Count.{count_leading_zeros}
use lib.Pow.{shl_lt, pow_mono}
use lib.Ieee.{Float, nan, inf, fin, binary32, odd, fits, is_nan, of_fields, of_bits, to_bits, nan_bits}
use lib.Ieee.Bits.{of_bits-to_bits, to_bits-of_bits, to_bits-lt, nan_bits_is, nan_bits_above, is_true}
use lib.Ieee.Exact.{HasValue, odd_sign as odd-value}
use lib.Ieee.Fits.{and_l, and_r, odd-fits, cond-fits, nan-fits, inf-fits}
use borrow.Author.Tests.{eqb-true, eqb-false, ne_eqb, lt-leb, le-leb, lt-ltb, le-ltb, ltb-true, ltb-false}
use Rattle.fields.specs.Le.{u16_at, u32_at}
use Rattle.half.specs.Half.{sign, exponent, fraction, fields_value, half_value, is_nan_half, quiet, widened_nan, widened, stored_value}
use Rattle.half.specs.Inner.{is_normal, all_below, are_normal}
use Rattle.half.proofs.Odd.{odd_shift}

-- ---- the value of a half

subnormal-is : (h : ℕ) → exponent h ≡ 0 → half_value h ≡ odd 11 (eqb (sign h) 1) (fraction h) 0 24
unfolding half_value
subnormal-is h e = simp e

normal-is : (h x : ℕ) → exponent h ≡ suc x → x < 30 → half_value h ≡ odd 11 (eqb (sign h) 1) (1024 + fraction h) x 24
unfolding half_value
normal-is h x e l =
    let n : suc x ≡ 31 → ⊥ = λ v. omega arith in
    simp (e, ne_eqb (suc x) 31 n)

-- with exponent field 0 the fraction counts units of 2 ^ -24
pub subnormal-value : (h : ℕ) → exponent h ≡ 0 → HasValue (half_value h) (eqb (sign h) 1) (fraction h) (2 ^ 24)
subnormal-value h e =
    rw (subnormal-is h e) (subst (λ (n : ℕ). HasValue (odd 11 (eqb (sign h) 1) (fraction h) 0 24) (eqb (sign h) 1) n (2 ^ 24)) (mul-one (fraction h)) (odd-value 11 (eqb (sign h) 1) (fraction h) 0 24))

-- from 1 to 30 a leading one stands before the fraction, and each step up doubles
pub normal-value : (h x : ℕ) → exponent h ≡ suc x → x < 30 → HasValue (half_value h) (eqb (sign h) 1) ((1024 + fraction h) * 2 ^ x) (2 ^ 24)
normal-value h x e l = rw (normal-is h x e l) (odd-value 11 (eqb (sign h) 1) (1024 + fraction h) x 24)

-- the halves that `is_nan_half` names are those with no number for a value
odd_no_nan : (d : ℕ) (s : Bool) (q k l : ℕ) → is_nan (odd d s q k l) ≡ false
unfolding odd is_nan
odd_no_nan d s zero k l = refl
odd_no_nan d s (suc q) k l = refl

fields_nan : (s : Bool) (x t : ℕ) → is_nan (fields_value s x t) ≡ (eqb x 31 && not (eqb t 0))
unfolding fields_value is_nan
fields_nan s zero t = odd_no_nan 11 s t 0 24
fields_nan s (suc x) t = go (eqb (suc x) 31) (eqb t 0)
  where
    go : (a b : Bool) → is_nan (cond a (cond b (inf s) nan) (odd 11 s (1024 + t) x 24)) ≡ (a && not b)
    go true true = refl
    go true false = refl
    go false b = odd_no_nan 11 s (1024 + t) x 24

pub nan-half : (h : ℕ) → is_nan (half_value h) ≡ is_nan_half h
unfolding half_value
nan-half h = fields_nan (eqb (sign h) 1) (exponent h) (fraction h)

-- ---- binary32 holds it

-- the same number in units of binary32's smallest value, 2 ^ -149
in-single : (s : Bool) (q k : ℕ) → odd 24 s (q * 2 ^ 13) (k + 112) 149 ≡ odd 11 s q k 24
in-single s q k = odd_shift 13 112 11 s q k 24

finite-fits : (s : Bool) (q k : ℕ) → q < 2048 → k < 30 → T (fits binary32 (odd 11 s q k 24))
finite-fits s q k Q K =
    let small : q * 2 ^ 13 < 2 ^ 24 = omega arith in
    let room : 24 + (k + 112) ≤ 277 = omega arith in
    subst (λ (v : Float). T (fits binary32 v)) (in-single s q k)
    (odd-fits binary32 24 s (q * 2 ^ 13) (k + 112) small (le_of_lt small) (lt_of_lt_of_le (shl_lt 24 (k + 112) small) (pow_mono room)))

fields_fit : (s : Bool) (x t : ℕ) → x < 32 → t < 1024 → T (fits binary32 (fields_value s x t))
unfolding fields_value
fields_fit s zero t X H = finite-fits s t 0 (omega arith) (omega arith)
fields_fit s (suc x) t X H = go (eqb (suc x) 31) refl
  where
    go : (b : Bool) → eqb (suc x) 31 ≡ b → T (fits binary32 (cond b (cond (eqb t 0) (inf s) nan) (odd 11 s (1024 + t) x 24)))
    go true e = cond-fits binary32 (eqb t 0) (inf s) nan (inf-fits binary32 s) (nan-fits binary32)
    go false e =
        let n = eqb-false (suc x) 31 e in
        finite-fits s (1024 + t) x (omega arith) (omega arith)

pub half-fits : (h : ℕ) → T (fits binary32 (half_value h))
unfolding half_value
half-fits h = fields_fit (eqb (sign h) 1) (exponent h) (fraction h) (omega arith) (omega arith)

plain : (h : ℕ) → is_nan_half h ≡ false → widened h ≡ to_bits binary32 (half_value h)
unfolding widened
plain h e = rw e refl

-- "A half widens exactly"
pub exact : (h : ℕ) → is_nan_half h ≡ false → of_bits binary32 (widened h) ≡ half_value h
exact h e = rw (plain h e) (of_bits-to_bits binary32 (half_value h) (half-fits h))

-- ---- the pattern of each kind of half

-- the sign's bit, and its test
sign_bit : (g : ℕ) → g < 2 → cond (eqb g 1) (2 ^ 31) 0 ≡ g * 2 ^ 31
sign_bit zero G = refl
sign_bit (suc zero) G = refl
sign_bit (suc (suc g)) G = absurd (omega arith)

sign-test : (g n : ℕ) → g * 2 ^ 31 ≤ n → n < g * 2 ^ 31 + 2 ^ 31 → g < 2 → leb (2 ^ 31) n ≡ eqb g 1
sign-test zero n L U G = lt-leb (2 ^ 31) n (omega arith)
sign-test (suc zero) n L U G = le-leb (2 ^ 31) n (omega arith)
sign-test (suc (suc g)) n L U G = absurd (omega arith)

no_nan : (n : ℕ) → n % 2 ^ 31 ≤ 255 * 2 ^ 23 → T (not (is_nan (of_bits binary32 n)))
no_nan n h = rw (sym (nan_bits_is binary32 n) ∙ nan_bits_above binary32 n ∙ le-ltb _ _ h) tt

-- a normal half, by its three fields in the pattern n
of-fields : (s : Bool) (n x t : ℕ) → leb (2 ^ 31) n ≡ s → n % 2 ^ 31 / 2 ^ 23 ≡ suc (x + 112) → n % 2 ^ 23 ≡ t * 2 ^ 13 → x < 30
    → of_bits binary32 n ≡ odd 11 s (1024 + t) x 24
unfolding of_bits of_fields
of-fields s n x t S X H l =
    let e : 2 ^ 23 + t * 2 ^ 13 ≡ (1024 + t) * 2 ^ 13 = omega arith in
    let u : suc (x + 112) ≡ 255 → ⊥ = λ v. omega arith in
    simp (S, X, H, ne_eqb (suc (x + 112)) 255 u, e) (in-single s (1024 + t) x)

normal-bits : (g x t : ℕ) → g < 2 → x < 30 → t < 1024 → to_bits binary32 (odd 11 (eqb g 1) (1024 + t) x 24) ≡ g * 2 ^ 31 + (suc x + 112) * 2 ^ 23 + t * 2 ^ 13
normal-bits g x t G X H =
    let n = g * 2 ^ 31 + (suc x + 112) * 2 ^ 23 + t * 2 ^ 13 in
    let v = of-fields (eqb g 1) n x t (sign-test g n (omega arith) (omega arith) G) (omega arith) (omega arith) X in
    ap (to_bits binary32) (sym v) ∙ to_bits-of_bits binary32 n (omega arith) (no_nan n (omega arith))

pub widened-normal : (h : ℕ) → h < 65536 → 0 < exponent h → exponent h < 31 → sign h * 2 ^ 31 + (exponent h + 112) * 2 ^ 23 + fraction h * 2 ^ 13 ≡ widened h
widened-normal h H L U = go (exponent h) refl L U
  where
    go : (x : ℕ) → exponent h ≡ x → 0 < x → x < 31 → sign h * 2 ^ 31 + (x + 112) * 2 ^ 23 + fraction h * 2 ^ 13 ≡ widened h
    go zero e l u = absurd (lt_irrefl 0 l)
    go (suc x) e l u =
        let n : exponent h ≡ 31 → ⊥ = λ v. omega arith in
        sym
        (plain h (simp (ne_eqb (exponent h) 31 n))
        ∙ ap (to_bits binary32) (normal-is h x e (omega arith))
        ∙ normal-bits (sign h) x (fraction h) (omega arith) (omega arith) (omega arith))

-- a value's sign is the highest bit of its pattern
regroup : (c a b : ℕ) → c + a + b ≡ c + (0 + a + b)
regroup c a b = omega arith

fin-sign : (s : Bool) (m : ℕ) (e : ℤ) → to_bits binary32 (fin s m e) ≡ cond s (2 ^ 31) 0 + to_bits binary32 (fin false m e)
unfolding to_bits
fin-sign s m e = regroup _ _ _

odd_sign : (d : ℕ) (s : Bool) (q k l : ℕ) → to_bits binary32 (odd d s q k l) ≡ cond s (2 ^ 31) 0 + to_bits binary32 (odd d false q k l)
unfolding odd
odd_sign d s zero k l = fin-sign s _ _
odd_sign d s (suc q) k l = fin-sign s _ _

low : (h : ℕ) → exponent h ≡ 0 → widened h ≡ to_bits binary32 (odd 11 (eqb (sign h) 1) (fraction h) 0 24)
low h e = plain h (simp e) ∙ ap (to_bits binary32) (subnormal-is h e)

-- a fraction alone is a half
unsigned : (k : ℕ) → k < 1024 → widened k ≡ to_bits binary32 (odd 11 false k 0 24)
unsigned k l =
    let g : sign k ≡ 0 = omega arith in
    let t : fraction k ≡ k = omega arith in
    low k (omega arith) ∙ ap₂ (λ (a b : ℕ). to_bits binary32 (odd 11 (eqb a 1) b 0 24)) g t

-- "the sign set afterwards"
pub widened-subnormal : (h : ℕ) → h < 65536 → exponent h ≡ 0 → sign h * 2 ^ 31 + widened (fraction h) ≡ widened h
widened-subnormal h H e =
    ap₂ (λ (a b : ℕ). a + b) (sym (sign_bit (sign h) (omega arith))) (unsigned (fraction h) (omega arith))
    ∙ sym (low h e ∙ odd_sign 11 (eqb (sign h) 1) (fraction h) 0 24)

-- a zero is its sign alone
pub widened-zero : (h : ℕ) → h < 65536 → exponent h ≡ 0 → fraction h ≡ 0 → sign h * 2 ^ 31 ≡ widened h
unfolding widened
widened-zero h H e f = sym (add-zero _) ∙ ap (λ (t : ℕ). sign h * 2 ^ 31 + widened t) (sym f) ∙ widened-subnormal h H e

pub widened-infinity : (h : ℕ) → h < 65536 → exponent h ≡ 31 → fraction h ≡ 0 → sign h * 2 ^ 31 + 255 * 2 ^ 23 ≡ widened h
unfolding widened
widened-infinity h H e f = simp (e, f, sign_bit (sign h) (omega arith))

nan_is : (h : ℕ) → is_nan_half h ≡ true → widened h ≡ widened_nan h
unfolding widened
nan_is h e = rw e refl

pub widened-nan : (h q : ℕ) → exponent h ≡ 31 → (fraction h ≡ 0 → ⊥) → quiet (fraction h) ≡ q → sign h * 2 ^ 31 + 255 * 2 ^ 23 + q * 2 ^ 13 ≡ widened h
widened-nan h q e f w = rw (nan_is h (simp (e, ne_eqb (fraction h) 0 f)), w) refl

quiet-range : (t : ℕ) → t < 1024 → (512 ≤ quiet t) × (quiet t < 1024)
quiet-range t h = go (ltb t 512) refl
  where
    go : (b : Bool) → ltb t 512 ≡ b → (512 ≤ cond b (t + 512) t) × (cond b (t + 512) t < 1024)
    go true e = let l = ltb-true t 512 e in omega arith
    go false e = let l = ltb-false t 512 e in omega arith

-- "a NaN keeps its fraction bits, quiet bit set": the three fields of its pattern
pub nan-fields : (h : ℕ) → h < 65536 → is_nan_half h ≡ true
    → (widened h / 2 ^ 31 ≡ sign h) × (widened h % 2 ^ 31 / 2 ^ 23 ≡ 255) × (widened h % 2 ^ 23 ≡ quiet (fraction h) * 2 ^ 13)
nan-fields h H e = let q = quiet-range (fraction h) (omega arith) in rw (nan_is h e) (omega arith)

pub nan-stays : (h : ℕ) → h < 65536 → is_nan_half h ≡ true → nan_bits binary32 (widened h) ≡ true
nan-stays h H e =
    let q = quiet-range (fraction h) (omega arith) in
    let m : widened_nan h % 2 ^ 31 ≡ 255 * 2 ^ 23 + quiet (fraction h) * 2 ^ 13 = omega arith in
    ap (nan_bits binary32) (nan_is h e) ∙ nan_bits_above binary32 (widened_nan h) ∙ lt-ltb (255 * 2 ^ 23) (widened_nan h % 2 ^ 31) (rw m (omega arith))

-- a pattern has 32 bits
pub widened-lt : (h : ℕ) → h < 65536 → widened h < 2 ^ 32
widened-lt h H = go (is_nan_half h) refl
  where
    go : (b : Bool) → is_nan_half h ≡ b → widened h < 2 ^ 32
    go true e = let q = quiet-range (fraction h) (omega arith) in rw (nan_is h e) (omega arith)
    go false e = rw (plain h e) (to_bits-lt binary32 (half_value h) (half-fits h))

-- ---- a subnormal half, from the position of its highest one

-- what passes at all numbers below n passes at one
all-at : (f : ℕ → Bool) (n k : ℕ) → T (all_below f n) → k < n → T (f k)
all-at f zero k t l = absurd (omega arith)
all-at f (suc n) k t l = go (all-at f n k (and_r (f n) (all_below f n) t)) (eqb k n) refl
  where
    go : (k < n → T (f k)) → (b : Bool) → eqb k n ≡ b → T (f k)
    go rest true e = subst (λ (i : ℕ). T (f i)) (sym (eqb-true k n e)) (and_l (f n) (all_below f n) t)
    go rest false e = let d = eqb-false k n e in rest (omega arith)

-- the pattern that is worked out of a fraction with its highest one at position j
abbrev pub worked_out : ℕ → ℕ → ℕ
worked_out j t = (j + 103) * 2 ^ 23 + t * 2 ^ (23 - j) % 2 ^ 32 % 2 ^ 23

-- the highest one of t has z zeros above it and is one of ten, and so its half's pattern is worked out
abbrev right : ℕ → ℕ → Bool
right z t = leb 22 z && (leb z 31 && eqb (worked_out (31 - z) t) (widened t))

-- one test over all the fractions but 0, which antt computes
all_right : T (all_below (λ k. right (count_leading_zeros 32 (suc k)) (suc k)) 1023)
unfolding widened count_leading_zeros
all_right = tt

pub worked-out : (t : ℕ) → 0 < t → t < 1024 → let z = count_leading_zeros 32 t in (22 ≤ z) × (z ≤ 31) × (worked_out (31 - z) t ≡ widened t)
worked-out zero L U = absurd (lt_irrefl 0 L)
worked-out (suc k) L U =
    let z = count_leading_zeros 32 (suc k) in
    let a = leb 22 z in
    let b = leb z 31 in
    let c = eqb (worked_out (31 - z) (suc k)) (widened (suc k)) in
    let r = all-at (λ k. right (count_leading_zeros 32 (suc k)) (suc k)) 1023 k all_right (omega arith) in
    let s = and_r a (b && c) r in
    (leb→le 22 z (and_l a (b && c) r), leb→le z 31 (and_l b c s), eqb→eq _ _ (and_r b c s))

-- ---- a stored value, by its width

pub stored-half : (width : ℕ) (s : List ℕ) (at : ℕ) → width ≡ 2 → widened (u16_at s at) ≡ stored_value s width at
unfolding stored_value
stored-half width s at e = simp e

pub stored-single : (width : ℕ) (s : List ℕ) (at : ℕ) → (width ≡ 2 → ⊥) → u32_at s at ≡ stored_value s width at
unfolding stored_value
stored-single width s at n = simp (ne_eqb width 2 n)

-- ---- normal halves

pub normal-exponent : (h : ℕ) → is_normal h ≡ true → (0 < exponent h) × (exponent h < 31)
normal-exponent h e =
    let t = subst T (sym e) tt in
    let a = ltb 0 (exponent h) in
    let b = ltb (exponent h) 31 in
    (ltb→lt 0 (exponent h) (and_l a b t), ltb→lt (exponent h) 31 (and_r a b t))

-- by the number without its sign
pub low-not-normal : (h : ℕ) → h % 32768 < 1024 → false ≡ is_normal h
low-not-normal h l = sym (simp (le-ltb 0 (exponent h) (omega arith)))

pub rest-normal : (h : ℕ) → 1024 ≤ h % 32768 → ltb (h % 32768) 31744 ≡ is_normal h
rest-normal h l = go (ltb (h % 32768) 31744) refl
  where
    go : (b : Bool) → ltb (h % 32768) 31744 ≡ b → b ≡ is_normal h
    go true d = let u = ltb-true (h % 32768) 31744 d in sym (simp (lt-ltb 0 (exponent h) (omega arith), lt-ltb (exponent h) 31 (omega arith)))
    go false d = let u = ltb-false (h % 32768) 31744 d in sym (simp (lt-ltb 0 (exponent h) (omega arith), le-ltb (exponent h) 31 (omega arith)))

-- all that is above the smallest one moved up in one
pub widened-above : (h : ℕ) → h < 65536 → is_normal h ≡ true → sign h * 2 ^ 31 + 947912704 + (h % 32768 - 1024) * 2 ^ 13 ≡ widened h
widened-above h H e =
    let n = normal-exponent h e in
    let moved : sign h * 2 ^ 31 + 947912704 + (h % 32768 - 1024) * 2 ^ 13 ≡ sign h * 2 ^ 31 + (exponent h + 112) * 2 ^ 23 + fraction h * 2 ^ 13 = omega (arith, n.0) in
    moved ∙ widened-normal h H n.0 n.1

-- by the difference from the smallest one, modulo 32768
pub above-normal : (h : ℕ) → (h + 31744) % 32768 < 30720 → (is_normal h ≡ true) × ((h + 31744) % 32768 ≡ h % 32768 - 1024)
above-normal h l = (sym (rest-normal h (omega arith)) ∙ lt-ltb (h % 32768) 31744 (omega arith), omega arith)

pub above_other : (h : ℕ) → 30720 ≤ (h + 31744) % 32768 → (exponent h ≡ 0 → ⊥) → exponent h ≡ 31
above_other h l n = omega arith

-- a run of them
pub normal-none : (s : List ℕ) (at : ℕ) → true ≡ are_normal s at 0
unfolding are_normal
normal-none s at = refl

pub normal-next : (s : List ℕ) (at k : ℕ) {a b : Bool} → b ≡ is_normal (u16_at s (at + k * 2)) → a ≡ are_normal s at k → (b && a) ≡ are_normal s at (k + 1)
unfolding are_normal
normal-next s at k d e = rw (add-one k) (ap₂ ◌&&◌ d e)

-- each of them is one
pub normal-at : (s : List ℕ) (at n k : ℕ) → are_normal s at n ≡ true → k < n → is_normal (u16_at s (at + k * 2)) ≡ true
unfolding are_normal
normal-at s at n k e l = is_true _ (all-at (λ i. is_normal (u16_at s (at + i * 2))) n k (subst T (sym e) tt) l)
