-- lib.Ieee's `odd` writes a number with its zeros at the end taken off: so j zeros more, with the exponent j less, write the same value.
use mathlib.Core.Path.{◌≡◌, refl, ap, ap₂, ◌∙◌}
use Prim.Native.Nat.{ℕ, zero, suc, ◌+◌, ◌*◌, ◌/◌, ◌^◌, ◌≤◌, ◌<◌}
use native.Mathlib.Nat.{mul-pos, zero-lt-suc, lt_irrefl, zero-add, mul-one, suc-add, zero-mul, add_comm, mul-div-mul_right}
use native.Mathlib.Omega.{arith}
use mathlib.Core.Bool.{Bool, true, false}
use lib.IntN.{pos, negsuc}
use lib.Dec.{leb}
use lib.Pow.{pow-add, pow_pos}
use lib.Bits.{shifted_half, shifted_even}
use lib.Count.{count_trailing_zeros}
use lib.Ieee.{fin, minus, odd}
use borrow.Author.Tests.{leb-true, leb-false, le-leb, lt-leb}

zeros : (j d q : ℕ) → count_trailing_zeros (j + d) (q * 2 ^ j) ≡ j + count_trailing_zeros d q
unfolding count_trailing_zeros
zeros zero d q = simp (zero-add, mul-one)
zeros (suc j) d q = simp (suc-add, shifted_half, shifted_even, zeros j d q)

minus-shift : (a b c : ℕ) → minus (a + c) (b + c) ≡ minus a b
minus-shift a b c = go (leb b a) refl
  where
    go : (t : Bool) → leb b a ≡ t → minus (a + c) (b + c) ≡ minus a b
    go true e =
        let h : b ≤ a = leb-true b a e in
        simp (e, le-leb (b + c) (a + c) (omega arith)) (ap pos (omega arith))
    go false e =
        let h : a < b = leb-false b a e in
        simp (e, lt-leb (b + c) (a + c) (omega arith)) (ap negsuc (omega arith))

odd_pos : (d : ℕ) (s : Bool) (q k l : ℕ) → 0 < q → odd d s q k l ≡ fin s (q / 2 ^ count_trailing_zeros d q) (minus (k + count_trailing_zeros d q) l)
unfolding odd
odd_pos d s zero k l h = absurd (lt_irrefl 0 h)
odd_pos d s (suc q) k l h = refl

pub odd_shift : (j c d : ℕ) (s : Bool) (q k l : ℕ) → odd (j + d) s (q * 2 ^ j) (k + c) (l + j + c) ≡ odd d s q k l
unfolding odd
odd_shift j c d s zero k l = simp zero-mul
odd_shift j c d s (suc q) k l =
    let n = suc q in
    let t = count_trailing_zeros d n in
    let digits : n * 2 ^ j / 2 ^ (t + j) ≡ n / 2 ^ t = rw pow-add (mul-div-mul_right n (2 ^ t) (pow_pos j)) in
    let a : k + c + (t + j) ≡ k + t + (j + c) = omega arith in
    let b : l + j + c ≡ l + (j + c) = omega arith in
    let place : minus (k + c + (t + j)) (l + j + c) ≡ minus (k + t) l = ap₂ minus a b ∙ minus-shift (k + t) l (j + c) in
    odd_pos (j + d) s (n * 2 ^ j) (k + c) (l + j + c) (mul-pos (zero-lt-suc q) (pow_pos j))
    ∙ ap (λ (z : ℕ). fin s (n * 2 ^ j / 2 ^ z) (minus (k + c + z) (l + j + c))) (zeros j d n ∙ add_comm j t)
    ∙ ap₂ (fin s) digits place
