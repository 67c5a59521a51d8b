-- Byte strings compared by words: where the words are the same, so are their eight bytes.
use mathlib.Core.Path.{◌≡◌, sym, ◌∙◌}
use mathlib.Core.List.{List}
use Prim.Native.Nat.{ℕ, zero, suc, ◌+◌, ◌*◌, ◌≤◌, ◌<◌}
use native.Mathlib.Nat.{add-zero}
use native.Mathlib.Numerals.{towards_suc, add-one}
use native.Mathlib.Omega.{arith}
use lib.ListN.{length, drop}
use Rattle.fields.specs.Le.{byte_at, u64_at}
use Rattle.fields.specs.Fields.{same_bytes}
use Rattle.fields.proofs.Laws.{same_step}

-- the number of k bytes from i on
le_at : List ℕ → ℕ → ℕ → ℕ
le_at s zero i = 0
le_at s (suc k) i = byte_at s i + 256 * le_at s k (suc i)

u64-le : (s : List ℕ) (i : ℕ) → u64_at s i ≡ le_at s 8 i
unfolding le_at u64_at
u64-le s i = simp towards_suc (omega arith)

module _ (a b : List ℕ) (low : (i : ℕ) → byte_at a i < 256) (low' : (i : ℕ) → byte_at b i < 256) (e : length a ≡ length b) where
  same-bytes-of : (k i : ℕ) → i + k ≤ length a → le_at a k i ≡ le_at b k i → same_bytes (drop (i + k) a) (drop (i + k) b) ≡ same_bytes (drop i a) (drop i b)
  unfolding le_at
  same-bytes-of zero i h x = rw add-zero
  same-bytes-of (suc k) i h x =
      let first : byte_at a i ≡ byte_at b i = omega (arith, low i, low' i) in
      let rest : le_at a k (suc i) ≡ le_at b k (suc i) = omega (arith, low i, low' i) in
      let n : i + suc k ≡ i + 1 + k = omega arith in
      rw n (same-bytes-of k (i + 1) (omega arith) (rw (add-one i) rest) ∙ same_step a b i e (omega arith) first)

  pub same_word : (i : ℕ) → i + 8 ≤ length a → u64_at a i ≡ u64_at b i → same_bytes (drop (i + 8) a) (drop (i + 8) b) ≡ same_bytes (drop i a) (drop i b)
  same_word i h x = same-bytes-of 8 i h (sym (u64-le a i) ∙ x ∙ u64-le b i)
