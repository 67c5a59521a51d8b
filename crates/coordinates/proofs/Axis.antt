-- One axis: o is the node's origin, s its step, d its side, x the place's digit, v the voxel.
use mathlib.Core.Path.{◌≡◌, refl, sym, ap, ◌∙◌}
use mathlib.Core.Bool.{Bool, true, false, ◌&&◌, false≢true}
use Prim.Native.Nat.{ℕ, suc, ◌+◌, ◌-◌, ◌*◌, ◌/◌, ◌%◌, ◌<◌}
use native.Mathlib.Nat.{mod-lt, div-add-mod', mul-mod_left, div-lt_iff_lt-mul, div-mul_cancel, dvd_of_mod-eq-zero, mod-add-mod, zero-add, mod-le, mul_assoc, lt_of_mul-lt-mul_right}
use native.Mathlib.Omega.{arith}
use lib.Arith.{digits_lt, digits_div}
use lib.IntN.{ℤ, pos, negsuc, nat_abs, ◌+ℤ◌, ◌-ℤ◌, +ℤ_idr, -ℤ-+ℤ_cancel, +ℤ-neg_ℤ_cancel}
use lib.Signed.{le_z, lt_z}
use borrow.Author.Tests.{lt-ltb, ltb-true, le-leb}
use mir.Syntax.{w32}
use mir.Val.{SFits}
use Rattle.coordinates.specs.Coordinates.{coord_of, place_along, remainder, within}
use Rattle.coordinates.proofs.Integers.{le-sums, lt-sums, sum-sum, sum-swap, sum-cancel, at_least, lowered, sub-ge, sub-pos}
use Rattle.coordinates.proofs.Remainder.{remainder_is, remainder-lt, remainder-sum, remainder-above, remainder-part}

pub and_both : (a b : Bool) → (a && b) ≡ true → (a ≡ true) × (b ≡ true)
and_both true b h = (refl, h)
and_both false b h = absurd (false≢true h)

pub and-join : {a b : Bool} → a ≡ true → b ≡ true → (a && b) ≡ true
and-join h k = rw (h, k)

-- ---- within a side of c: c plus a number below the side

pub within-sum : (c : ℤ) (s k : ℕ) → k < s → within c s (c +ℤ pos k) ≡ true
unfolding within
within-sum c s k h =
    and-join (ap (λ (z : ℤ). le_z z (c +ℤ pos k)) (sym (+ℤ_idr c)) ∙ le-sums c 0 k ∙ le-leb 0 k (omega arith)) (lt-sums c k s ∙ lt-ltb k s h)

pub within-is : (c : ℤ) (s : ℕ) (v : ℤ) → within c s v ≡ true → (k : ℕ) × (k < s) × (v ≡ c +ℤ pos k)
unfolding within
within-is c s v h =
    let b = and_both (le_z c v) (lt_z v (c +ℤ pos s)) h in
    let k = at_least c v b.0 in
    (k.0, ltb-true k.0 s (sym (lt-sums c k.0 s) ∙ ap (λ (z : ℤ). lt_z z (c +ℤ pos s)) (sym k.1) ∙ b.1), k.1)

pub corner : (c : ℤ) (s : ℕ) → 0 < s → within c s c ≡ true
corner c s h = ap (λ (z : ℤ). within c s z) (sym (+ℤ_idr c)) ∙ within-sum c s 0 h

pub side-one : (c v : ℤ) → within c 1 v ≡ true → v ≡ c
side-one c v w =
    let k = within-is c 1 v w in
    let e : k.0 ≡ 0 = omega arith in
    k.2 ∙ ap (λ (n : ℕ). c +ℤ pos n) e ∙ +ℤ_idr c

-- ---- places

pub inside : (d s x : ℕ) (o v : ℤ) → x < d → within (coord_of s o x) s v ≡ true → within o (d * s) v ≡ true
inside d s x o v h w =
    let k = within-is (coord_of s o x) s v w in
    rw (k.2 ∙ sum-sum o (x * s) k.0) (within-sum o (d * s) (x * s + k.0) (digits_lt h k.1))

pub one : (s x y : ℕ) (o v : ℤ) → within (coord_of s o x) s v ≡ true → within (coord_of s o y) s v ≡ true → x ≡ y
one s x y o v w u =
    let j = within-is (coord_of s o x) s v w in
    let k = within-is (coord_of s o y) s v u in
    let e = sum-cancel o (x * s + j.0) (y * s + k.0) (sym (j.2 ∙ sum-sum o (x * s) j.0) ∙ k.2 ∙ sum-sum o (y * s) k.0) in
    sym (digits_div x j.1) ∙ ap (λ (n : ℕ). n / s) e ∙ digits_div y k.1

-- the place of o + k
at_offset : (s k : ℕ) (o v : ℤ) → 0 < s → v ≡ o +ℤ pos k → within (coord_of s o (k / s)) s v ≡ true
at_offset s k o v h e =
    rw (e ∙ ap (λ (n : ℕ). o +ℤ pos n) (sym (div-add-mod' k s)) ∙ sym (sum-sum o (k / s * s) (k % s)))
    (within-sum (coord_of s o (k / s)) s (k % s) (mod-lt k h))

pub some : (d s : ℕ) (o v : ℤ) → 0 < s → within o (d * s) v ≡ true → (x : ℕ) × (x < d) × (within (coord_of s o x) s v ≡ true)
some d s o v h w =
    let k = within-is o (d * s) v w in
    (k.0 / s, (div-lt_iff_lt-mul h).1 k.1, at_offset s k.0 o v h k.2)

-- the offset of a voxel from a multiple of m
pub offset : (o v : ℤ) (m : ℕ) → remainder o m ≡ 0 → within o m v ≡ true → (remainder v m < m) × (v ≡ o +ℤ pos (remainder v m))
offset o v m a w =
    let k = within-is o m v w in
    let r : remainder v m ≡ k.0 = ap (λ (z : ℤ). remainder z m) k.2 ∙ remainder-above o k.0 m (omega arith) a k.1 in
    (omega arith, k.2 ∙ ap (λ (n : ℕ). o +ℤ pos n) (sym r))

pub way_back : (d s : ℕ) (o v : ℤ) → 0 < s → remainder o (d * s) ≡ 0 → within o (d * s) v ≡ true → (place_along d s v < d) × (within (coord_of s o (place_along d s v)) s v ≡ true)
way_back d s o v h a w =
    let k = offset o v (d * s) a w in
    ((div-lt_iff_lt-mul h).1 k.0, at_offset s (remainder v (d * s)) o v h k.1)

pub multiple : (d s x : ℕ) (o : ℤ) → 0 < d * s → 0 < s → remainder o (d * s) ≡ 0 → remainder (coord_of s o x) s ≡ 0
multiple d s x o h k a =
    remainder-sum o (x * s) s k ∙ ap (λ (n : ℕ). (n + x * s) % s) (sym (remainder-part o d s h k) ∙ ap (λ (n : ℕ). n % s) a)
    ∙ mod-add-mod 0 s (x * s) ∙ ap (λ (n : ℕ). n % s) (zero-add (x * s)) ∙ mul-mod_left x s

-- ---- the root's origin

pub taken-within : (v : ℤ) (m : ℕ) → 0 < m → within (v -ℤ pos (remainder v m)) m v ≡ true
taken-within v m h =
    ap (λ (z : ℤ). within (v -ℤ pos (remainder v m)) m z) (sym (-ℤ-+ℤ_cancel v (pos (remainder v m))))
    ∙ within-sum (v -ℤ pos (remainder v m)) m (remainder v m) (remainder-lt v m h)

pub taken-only : (o v : ℤ) (m : ℕ) → remainder o m ≡ 0 → within o m v ≡ true → o ≡ v -ℤ pos (remainder v m)
taken-only o v m a w = sym (ap (λ (z : ℤ). z -ℤ pos (remainder v m)) (offset o v m a w).1 ∙ +ℤ-neg_ℤ_cancel o (pos (remainder v m)))

-- ---- the range of an i32: from -2147483648

pub lifted-in : (z : ℤ) → SFits w32 z → (k : ℕ) × (k < 4294967296) × (z +ℤ pos 2147483648 ≡ pos k)
lifted-in (pos n) f = (n + 2147483648, omega arith, refl)
lifted-in (negsuc n) f = (2147483648 - suc n, omega arith, sub-ge 2147483648 (suc n) (omega arith))

pub in-range : (z : ℤ) (k : ℕ) → k < 4294967296 → z +ℤ pos 2147483648 ≡ pos k → SFits w32 z
in-range (pos n) k h e = let f = ap nat_abs e in record { sfits = omega arith }
in-range (negsuc n) k h e = let f = sub-pos 2147483648 (suc n) k e in record { sfits = omega arith }

pub remainder-lifted : (z : ℤ) (k m : ℕ) → 0 < m → 2147483648 % m ≡ 0 → z +ℤ pos 2147483648 ≡ pos k → remainder z m ≡ k % m
remainder-lifted z k m h w e = remainder_is z (2147483648 / m) k m h (ap (λ (n : ℕ). z +ℤ pos n) (div-mul_cancel m (dvd_of_mod-eq-zero m w)) ∙ e)

-- a cube of side m at a multiple of m ends within the range where 2147483648 is a multiple of m too
pub above-in-range : (o : ℤ) (n m : ℕ) → 2147483648 % m ≡ 0 → SFits w32 o → remainder o m ≡ 0 → n < m → SFits w32 (o +ℤ pos n)
above-in-range o n m w f a h =
    let p : 0 < m = omega arith in
    let l = lifted-in o f in
    let e : l.0 % m ≡ 0 = sym (remainder-lifted o l.0 m p w l.2) ∙ a in
    let q = div-add-mod' l.0 m in
    let b = div-mul_cancel m (dvd_of_mod-eq-zero m w) in
    let t : 2 * (2147483648 / m) * m ≡ 4294967296 = mul_assoc 2 (2147483648 / m) m ∙ ap (λ (k : ℕ). 2 * k) b in
    let c : l.0 / m < 2 * (2147483648 / m) = lt_of_mul-lt-mul_right m (omega arith) in
    let g = digits_lt c h in
    in-range (o +ℤ pos n) (l.0 + n) (omega arith) (sum-swap o (pos n) (pos 2147483648) ∙ ap (λ (z : ℤ). z +ℤ pos n) l.2)

pub within-in-range : (o v : ℤ) (m : ℕ) → 2147483648 % m ≡ 0 → SFits w32 o → remainder o m ≡ 0 → within o m v ≡ true → SFits w32 v
within-in-range o v m h f a w = let k = within-is o m v w in rw k.2 (above-in-range o k.0 m h f a k.1)

pub taken-in-range : (v : ℤ) (m : ℕ) → 0 < m → 2147483648 % m ≡ 0 → SFits w32 v → SFits w32 (v -ℤ pos (remainder v m))
taken-in-range v m h w f =
    let l = lifted-in v f in
    let r : remainder v m ≡ l.0 % m = remainder-lifted v l.0 m h w l.2 in
    in-range (v -ℤ pos (remainder v m)) (l.0 - remainder v m) (omega arith) (lowered v 2147483648 l.0 (remainder v m) l.2 (omega (arith, mod-le l.0 m)))
