-- Laws of the remainder (0 to m - 1) of an integer. All come from one: an integer that is brought up to a natural number k
-- by a multiple of m has the remainder of k.
use mathlib.Core.Path.{◌≡◌, refl, sym, ap, ◌∙◌}
use Prim.Native.Nat.{ℕ, suc, ◌+◌, ◌-◌, ◌*◌, ◌/◌, ◌%◌, ◌<◌}
use native.Mathlib.Nat.{mod-lt, div-add-mod', add-mul, suc-mul, zero-add, mul-one, mul_assoc, add-mul-mod_self_right, lt_of_mul-lt-mul_right, mul-le-mul_left}
use native.Mathlib.Nat.{mod-add-mod, mod-eq_of_lt, mod-mod_of_dvd, mul-mod_left, mod-le, dvd-mul_left}
use native.Mathlib.Omega.{arith}
use lib.Arith.{digits_mod}
use lib.IntN.{ℤ, pos, negsuc, nat_abs, ◌+ℤ◌, ◌-ℤ◌}
use Rattle.coordinates.specs.Coordinates.{remainder}
use Rattle.coordinates.proofs.Integers.{sub-ge, sub-pos, sum-swap, lowered}

-- n + 1 taken off a multiple of m
off-multiple : (n k q m : ℕ) → 0 < m → k + suc n ≡ q * m → m - suc (n % m) ≡ k % m
off-multiple n k q m h e =
    let b = mod-lt n h in
    let s = div-add-mod' n m in
    let a : n / m < q = lt_of_mul-lt-mul_right m (omega arith) in
    let q₁ : q ≡ q - suc (n / m) + suc (n / m) = omega arith in
    let q₂ = ap (λ (x : ℕ). x * m) q₁ ∙ add-mul (q - suc (n / m)) (suc (n / m)) m in
    let k₁ : k ≡ (q - suc (n / m)) * m + (m - suc (n % m)) = omega (arith, suc-mul (n / m) m) in
    sym (ap (λ (x : ℕ). x % m) k₁ ∙ digits_mod (q - suc (n / m)) (omega arith))

pub remainder_is : (z : ℤ) (q k m : ℕ) → 0 < m → z +ℤ pos (q * m) ≡ pos k → remainder z m ≡ k % m
unfolding remainder
remainder_is (pos n) q k m h e = sym (add-mul-mod_self_right n q m) ∙ ap (λ (x : ℕ). x % m) (ap nat_abs e)
remainder_is (negsuc n) q k m h e = off-multiple n k q m h (sub-pos (q * m) (suc n) k e)

-- each integer is brought up so
pub lifted : (z : ℤ) (m : ℕ) → 0 < m → (q : ℕ) × (k : ℕ) × (z +ℤ pos (q * m) ≡ pos k)
lifted (pos n) m h = (0, n + 0 * m, refl)
lifted (negsuc n) m h = (suc n, suc n * m - suc n, sub-ge (suc n * m) (suc n) (omega (arith, mul-le-mul_left (suc n) h, mul-one (suc n))))

-- 0 to m - 1
pub remainder-lt : (z : ℤ) (m : ℕ) → 0 < m → remainder z m < m
remainder-lt z m h = let l = lifted z m h in rw (remainder_is z l.0 l.1 m h l.2) (mod-lt l.1 h)

-- of a sum
pub remainder-sum : (z : ℤ) (n m : ℕ) → 0 < m → remainder (z +ℤ pos n) m ≡ (remainder z m + n) % m
remainder-sum z n m h =
    let l = lifted z m h in
    remainder_is (z +ℤ pos n) l.0 (l.1 + n) m h (sum-swap z (pos n) (pos (l.0 * m)) ∙ ap (λ (x : ℤ). x +ℤ pos n) l.2)
    ∙ sym (mod-add-mod l.1 m n) ∙ ap (λ (x : ℕ). (x + n) % m) (sym (remainder_is z l.0 l.1 m h l.2))

-- of a multiple and a number below m
pub remainder-above : (o : ℤ) (n m : ℕ) → 0 < m → remainder o m ≡ 0 → n < m → remainder (o +ℤ pos n) m ≡ n
remainder-above o n m h a l = remainder-sum o n m h ∙ ap (λ (x : ℕ). (x + n) % m) a ∙ mod-eq_of_lt {n = 0 + n} (omega arith) ∙ zero-add n

-- what is left when the remainder is taken off is a multiple
pub taken-off : (z : ℤ) (m : ℕ) → 0 < m → remainder (z -ℤ pos (remainder z m)) m ≡ 0
taken-off z m h =
    let l = lifted z m h in
    let r : remainder z m ≡ l.1 % m = remainder_is z l.0 l.1 m h l.2 in
    let k : l.1 - remainder z m ≡ l.1 / m * m = omega (arith, div-add-mod' l.1 m) in
    remainder_is (z -ℤ pos (remainder z m)) l.0 (l.1 - remainder z m) m h (lowered z (l.0 * m) l.1 (remainder z m) l.2 (omega (arith, mod-le l.1 m)))
    ∙ ap (λ (x : ℕ). x % m) k ∙ mul-mod_left (l.1 / m) m

-- by a part of m
pub remainder-part : (z : ℤ) (d s : ℕ) → 0 < d * s → 0 < s → remainder z (d * s) % s ≡ remainder z s
remainder-part z d s h k =
    let l = lifted z (d * s) h in
    let e : z +ℤ pos (l.0 * d * s) ≡ pos l.1 = ap (λ (x : ℕ). z +ℤ pos x) (mul_assoc l.0 d s) ∙ l.2 in
    ap (λ (x : ℕ). x % s) (remainder_is z l.0 l.1 (d * s) h l.2)
    ∙ mod-mod_of_dvd s l.1 (dvd-mul_left s d) ∙ sym (remainder_is z (l.0 * d) l.1 s k e)
