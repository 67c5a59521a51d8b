-- Integers against natural numbers: v is at least c exactly when v is c plus a natural number, and orders of such sums are
-- orders of natural numbers. So every law of one axis is one of natural numbers.
use mathlib.Core.Path.{◌≡◌, refl, sym, ap, ◌∙◌}
use mathlib.Core.Bool.{Bool, true, false, false≢true}
use Prim.Native.Nat.{ℕ, zero, suc, ◌+◌, ◌-◌, ◌≤◌}
use native.Mathlib.Nat.{sub-add_cancel}
use native.Mathlib.Omega.{arith}
use lib.Dec.{leb, ltb, leb-zero, leb-suc-zero, leb-suc-suc}
use lib.IntN.{ℤ, pos, negsuc, suc_ℤ, pred_ℤ, neg_ℤ, nat_abs, sub_ℕ, pos-ne-negsuc, ◌+ℤ◌, ◌-ℤ◌, suc-pred, ℤ_ind, +ℤ-suc_ℤ, +ℤ_one, -ℤ_one, +ℤ_idr, +ℤ_assoc, +ℤ_comm, +ℤ_invr, -ℤ-+ℤ_cancel, +ℤ-neg_ℤ_cancel}
use lib.Signed.{le_z, lt_z}
use borrow.Author.Tests.{le-ltb, ltb-false}

-- ---- orders keep when both sides move by the same integer

le-suc : (a b : ℤ) → le_z (suc_ℤ a) (suc_ℤ b) ≡ le_z a b
le-suc (pos a) (pos b) = leb-suc-suc a b
le-suc (pos a) (negsuc zero) = leb-suc-zero a
le-suc (pos a) (negsuc (suc b)) = refl
le-suc (negsuc zero) (pos b) = leb-zero (suc b)
le-suc (negsuc zero) (negsuc zero) = refl
le-suc (negsuc zero) (negsuc (suc b)) = sym (leb-suc-zero b)
le-suc (negsuc (suc a)) (pos b) = refl
le-suc (negsuc (suc a)) (negsuc zero) = sym (leb-zero (suc a))
le-suc (negsuc (suc a)) (negsuc (suc b)) = sym (leb-suc-suc b a)

lt-is-le : (a b : ℤ) → lt_z a b ≡ le_z (suc_ℤ a) b
lt-is-le (pos a) (pos b) = refl
lt-is-le (pos a) (negsuc b) = refl
lt-is-le (negsuc zero) (pos b) = sym (leb-zero b)
lt-is-le (negsuc zero) (negsuc b) = leb-suc-zero b
lt-is-le (negsuc (suc a)) (pos b) = refl
lt-is-le (negsuc (suc a)) (negsuc b) = leb-suc-suc b a

le_pred : (a b : ℤ) → le_z (pred_ℤ a) (pred_ℤ b) ≡ le_z a b
le_pred a b = sym (le-suc (pred_ℤ a) (pred_ℤ b)) ∙ (λ i. le_z (suc-pred a i) (suc-pred b i))

pub le-shift : (k a b : ℤ) → le_z (a +ℤ k) (b +ℤ k) ≡ le_z a b
le-shift =
    ℤ_ind (λ k. (a b : ℤ) → le_z (a +ℤ k) (b +ℤ k) ≡ le_z a b)
    (λ a b i. le_z (+ℤ_idr a i) (+ℤ_idr b i))
    (λ n ih a b. (λ i. le_z (up a (pos n) i) (up b (pos n) i)) ∙ le-suc (a +ℤ pos n) (b +ℤ pos n) ∙ ih a b)
    (λ n ih a b. (λ i. le_z (down a (neg_ℤ (pos n)) i) (down b (neg_ℤ (pos n)) i)) ∙ le_pred (a +ℤ neg_ℤ (pos n)) (b +ℤ neg_ℤ (pos n)) ∙ ih a b)
  where
    up : (a k : ℤ) → a +ℤ (k +ℤ pos 1) ≡ suc_ℤ (a +ℤ k)
    up a k = sym (+ℤ_assoc a k (pos 1)) ∙ +ℤ_one (a +ℤ k)

    down : (a k : ℤ) → a +ℤ (k +ℤ neg_ℤ (pos 1)) ≡ pred_ℤ (a +ℤ k)
    down a k = sym (+ℤ_assoc a k (neg_ℤ (pos 1))) ∙ -ℤ_one (a +ℤ k)

-- ---- sums c + n with a natural number n

pub le-sums : (c : ℤ) (j k : ℕ) → le_z (c +ℤ pos j) (c +ℤ pos k) ≡ leb j k
le-sums c j k = (λ i. le_z (+ℤ_comm c (pos j) i) (+ℤ_comm c (pos k) i)) ∙ le-shift c (pos j) (pos k)

pub lt-sums : (c : ℤ) (j k : ℕ) → lt_z (c +ℤ pos j) (c +ℤ pos k) ≡ ltb j k
lt-sums c j k = lt-is-le (c +ℤ pos j) (c +ℤ pos k) ∙ ap (λ (z : ℤ). le_z z (c +ℤ pos k)) (sym (+ℤ-suc_ℤ c (pos j))) ∙ le-sums c (suc j) k

-- n after j is one sum
pub sum-sum : (c : ℤ) (j n : ℕ) → c +ℤ pos j +ℤ pos n ≡ c +ℤ pos (j + n)
sum-sum c j n = +ℤ_assoc c (pos j) (pos n)

pub sum-swap : (a b c : ℤ) → a +ℤ b +ℤ c ≡ a +ℤ c +ℤ b
sum-swap a b c = +ℤ_assoc a b c ∙ ap (λ (x : ℤ). a +ℤ x) (+ℤ_comm b c) ∙ sym (+ℤ_assoc a c b)

pub right-cancel : {a b : ℤ} (c : ℤ) → a +ℤ c ≡ b +ℤ c → a ≡ b
right-cancel {a} {b} c e = sym (+ℤ-neg_ℤ_cancel a c) ∙ ap (λ (x : ℤ). x -ℤ c) e ∙ +ℤ-neg_ℤ_cancel b c

pub sum-cancel : (c : ℤ) (j k : ℕ) → c +ℤ pos j ≡ c +ℤ pos k → j ≡ k
sum-cancel c j k e = ap nat_abs (right-cancel {a = pos j} {b = pos k} c (+ℤ_comm (pos j) c ∙ e ∙ +ℤ_comm c (pos k)))

-- r taken off where b brings z up to k
pub lowered : (z : ℤ) (b k r : ℕ) → z +ℤ pos b ≡ pos k → r ≤ k → z -ℤ pos r +ℤ pos b ≡ pos (k - r)
lowered z b k r e h =
    right-cancel {b = pos (k - r)} (pos r)
    (sum-swap (z -ℤ pos r) (pos b) (pos r) ∙ ap (λ (x : ℤ). x +ℤ pos b) (-ℤ-+ℤ_cancel z (pos r)) ∙ e ∙ ap pos (sym (sub-add_cancel h)))

not_negative : (z : ℤ) → le_z (pos 0) z ≡ true → (k : ℕ) × (z ≡ pos k)
not_negative (pos k) h = (k, refl)
not_negative (negsuc k) h = absurd (false≢true h)

pub at_least : (c v : ℤ) → le_z c v ≡ true → (k : ℕ) × (v ≡ c +ℤ pos k)
at_least c v h =
    let d = not_negative (v -ℤ c) (ap (λ (z : ℤ). le_z z (v -ℤ c)) (sym (+ℤ_invr c)) ∙ le-shift (neg_ℤ c) c v ∙ h) in
    (d.0, sym (-ℤ-+ℤ_cancel v c) ∙ ap (λ (z : ℤ). z +ℤ c) d.1 ∙ +ℤ_comm (pos d.0) c)

-- ---- differences

pub sub-ge : (a b : ℕ) → b ≤ a → sub_ℕ a b ≡ pos (a - b)
sub-ge a b h = rw (le-ltb a b h)

pub sub-pos : (a b k : ℕ) → sub_ℕ a b ≡ pos k → k + b ≡ a
sub-pos a b k e = go (ltb a b) refl
  where
    go : (t : Bool) → ltb a b ≡ t → k + b ≡ a
    go true l = absurd (pos-ne-negsuc k (b - suc a) (sym e ∙ rw l))
    go false l = let h = ltb-false a b l in let n : a - b ≡ k = ap nat_abs (sym (sub-ge a b h) ∙ e) in omega arith
