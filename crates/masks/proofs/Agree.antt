-- Masks of two files that are the same there.
use mathlib.Core.Path.{◌≡◌, ap, ap₂}
use mathlib.Core.Bool.{Bool, not, ◌&&◌, beq}
use mathlib.Core.List.{List}
use Prim.Native.Nat.{ℕ, ◌+◌, ◌*◌, ◌/◌, ◌%◌, ◌<◌}
use native.Mathlib.Omega.{arith}
use lib.ListN.{length}
use Rattle.fields.proofs.Agree.{Same}
use Rattle.masks.specs.Masks.{digit, mask_bit, ones, overlap, agree, is_nil}
use Rattle.masks.specs.Inner.{zeros_below}
use Rattle.masks.proofs.Laws.{ones-ext}

-- the bits of a mask of n bytes at m that is the same in both files
pub bit-same : {s t : List ℕ} {m : ℕ} (n q : ℕ) → Same s t m (m + n) → q < 8 * n → mask_bit s m q ≡ mask_bit t m q
unfolding mask_bit
bit-same {m = m} n q h k = ap (λ (b : ℕ). digit b (q % 8)) (h.byte (m + q / 8) (omega arith) (omega arith))

pub ones-same : {s t : List ℕ} {m : ℕ} (n : ℕ) → Same s t m (m + n) → ones (mask_bit s m) (8 * n) ≡ ones (mask_bit t m) (8 * n)
ones-same n h = ones-ext _ _ (8 * n) 0 λ q x y. bit-same n q h (omega arith)

pub zeros-same : {s t : List ℕ} {m : ℕ} (n : ℕ) → Same s t m (m + n) → zeros_below (mask_bit s m) (8 * n) ≡ zeros_below (mask_bit t m) (8 * n)
zeros-same n h = ap length (ones-ext _ _ (8 * n) 0 λ q x y. ap not (bit-same n q h (omega arith)))

module _ {s t : List ℕ} {a b : ℕ} (n : ℕ) (g : Same s t a (a + n)) (h : Same s t b (b + n)) where
  pub overlap-same : overlap (mask_bit s a) (mask_bit s b) (8 * n) ≡ overlap (mask_bit t a) (mask_bit t b) (8 * n)
  overlap-same = ap (λ (l : List ℕ). not (is_nil l)) (ones-ext _ _ (8 * n) 0 λ q x y. ap₂ ◌&&◌ (bit-same n q g (omega arith)) (bit-same n q h (omega arith)))

  pub agree_same : agree (mask_bit s a) (mask_bit s b) (8 * n) ≡ agree (mask_bit t a) (mask_bit t b) (8 * n)
  agree_same = ap is_nil (ones-ext _ _ (8 * n) 0 λ q x y. ap₂ (λ (a b : Bool). not (beq a b)) (bit-same n q g (omega arith)) (bit-same n q h (omega arith)))
