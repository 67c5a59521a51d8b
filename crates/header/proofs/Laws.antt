-- Laws of the definitions, by which the functions' proofs go.
use mathlib.Core.Path.{◌≡◌, refl}
use mathlib.Core.List.{List}
use mathlib.Core.Bool.{◌&&◌}
use mathlib.Core.Logic.{◌⊎◌, inl, inr}
use Prim.Native.Nat.{ℕ, ◌≤◌, ◌<◌}
use lib.Dec.{leb}
use borrow.Author.Tests.{le-leb, lt-leb, leb-true}
use Rattle.fields.specs.Parse.{Parse, fails, check}
use Rattle.fields.proofs.Laws.{Always, got-always, then-always, check-always}
use Rattle.fields.proofs.Steps.{check-yes, check-no}
use Rattle.header.specs.Header.{count_field, header}

-- a check that a number is in a range, which is below or above it, or in it
pub check-out : {A : Type 0} (a b n : ℕ) {k : ℕ} (p : Parse A) → (n < a) ⊎ (a ≤ n × b < n) → fails k ≡ check (leb a n && leb n b) k p
check-out a b n p (inl h) = check-no p refl (simp (lt-leb a n h))
check-out a b n p (inr h) = check-no p refl (simp (le-leb a n h.0, lt-leb n b h.1))

pub check-in : {A : Type 0} (a b n k : ℕ) {p x : Parse A} → a ≤ n → n ≤ b → x ≡ p → x ≡ check (leb a n && leb n b) k p
check-in a b n k h j = check-yes k refl (simp (le-leb a n h, le-leb n b j))

-- a header that was read has at most 64 grids
pub few-grids : (s : List ℕ) → Always (λ h p. h.grid_count ≤ 64) (header s)
unfolding header count_field
few-grids s =
    check-always _ _ _ _ λ ok. then-always _ _ _ λ front p e. then-always _ _ _ λ identity q e. then-always _ _ _ λ entries r e.
    then-always _ _ _ λ count n e. got-always _ _ _ (then-always (λ m p. m ≤ 64) _ _ (λ m p e. check-always _ _ _ _ λ ok. got-always _ _ _ (leb-true m 64 ok)) count n e)
