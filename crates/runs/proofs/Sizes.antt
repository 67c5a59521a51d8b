-- The number before a run, as the code tests it: it is not positive, and it is minus the bytes of the run.
use mathlib.Core.Path.{◌≡◌, refl, ap, ◌∙◌}
use mathlib.Core.Bool.{not}
use Prim.Native.Nat.{ℕ, zero, suc, ◌*◌, ◌^◌, ◌≤◌, ◌<◌}
use native.Mathlib.Nat.{mul-le-mul}
use native.Mathlib.Omega.{arith}
use lib.Dec.{eqb}
use lib.IntN.{ℤ, pos, negsuc, neg_ℤ, ◌-ℤ◌}
use lib.Signed.{mag, lt_z, le_z}
use mir.Syntax.{w64}
use mir.Val.{SFits, to_z, of_z}
use mir.ValLaws.{to_z_pos, to_z-of_z}
use borrow.Author.Tests.{lt-leb, lt-ltb}
use Rattle.half.specs.Inner.{IsWidth}
use Rattle.coordinates.specs.Coordinates.{same_int}
use Rattle.coordinates.proofs.Same.{same_bits}

-- no more than 0, by the test for more
pub at-most-0 : {z : ℤ} → SFits w64 z → not (lt_z (pos 0) (to_z w64 (of_z w64 z))) ≡ le_z z (pos 0)
at-most-0 {z} h = rw (to_z-of_z w64 z h) (go z)
  where
    go : (z : ℤ) → not (lt_z (pos 0) z) ≡ le_z z (pos 0)
    go (pos zero) = refl
    go (pos (suc n)) = rw (lt-ltb 0 (suc n) (omega arith), lt-leb (suc n) 0 (omega arith))
    go (negsuc n) = refl

-- minus as many bytes as a run may have is an i64, and the number is the same when its bits are
minus : (b : ℕ) → pos 0 -ℤ pos b ≡ neg_ℤ (pos b)
minus zero = refl
minus (suc b) = rw (lt-ltb 0 (suc b) (omega arith)) (ap negsuc (omega arith))

minus-small : (b : ℕ) → b ≤ 131072 → mag (neg_ℤ (pos b)) < 2 ^ 63
minus-small zero h = omega arith
minus-small (suc b) h = omega arith

minus_is : (b : ℕ) → b ≤ 131072 → pos 0 -ℤ to_z w64 b ≡ neg_ℤ (pos b)
minus_is b few = rw (to_z_pos w64 b (omega arith)) (minus b)

pub minus-fits : {b : ℕ} → b ≤ 131072 → SFits w64 (pos 0 -ℤ to_z w64 b)
minus-fits {b} few = record { sfits = rw (minus_is b few) (minus-small b few) }

pub same_size :
    {bytes count width : ℕ} → (count ≤ 32768) × IsWidth width × (bytes ≡ count * width) → {z : ℤ} → SFits w64 z →
    eqb (of_z w64 z) (of_z w64 (pos 0 -ℤ to_z w64 bytes)) ≡ same_int z (neg_ℤ (pos (count * width)))
same_size {bytes} {count} {width} p {z} h =
    let few : bytes ≤ 131072 = omega (arith, mul-le-mul p.0 p.1.1) in
    rw (minus_is bytes few) (same_bits w64 z (neg_ℤ (pos bytes)) h.sfits (minus-small bytes few)) ∙ ap (λ (b : ℕ). same_int z (neg_ℤ (pos b))) p.2
