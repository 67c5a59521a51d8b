-- Signed numbers against their patterns.
use mathlib.Core.Path.{◌≡◌, refl, sym, ap, ◌∙◌}
use mathlib.Core.Bool.{true, false}
use Prim.Native.Nat.{ℕ, suc, ◌-◌, ◌%◌, ◌<◌, ◌^◌}
use native.Mathlib.Omega.{arith}
use lib.Dec.{ltb}
use lib.IntN.{ℤ, pos, negsuc}
use lib.Signed.{lt_z}
use borrow.Author.Tests.{ltb-true}
use mir.Syntax.{w32, w64}
use mir.Val.{SFits, to_z, of_z}
use mir.Facts.{to_z-of_z, to_z_pos, to_z-neg, sfits_widen}
use Rattle.fields.specs.Le.{signed}
use Rattle.fields.proofs.Laws.{signed32}
use Rattle.place.specs.declared.Place.{Place}
use Rattle.words.specs.Words.{pattern, low32, StandFor, start_by, start_words, cursor_by, cursor_words, inside_by, inside_words, place_by, words_of}

-- a negative number's bits, turned over, are the number that its pattern lacks to the largest word
pub below :
    (z : ℤ) → SFits w64 z → lt_z (to_z w64 (of_z w64 z)) (pos 0) ≡ true → (k : ℕ) × (to_z w64 (18446744073709551615 - of_z w64 z) ≡ pos k) × (k < 2 ^ 63) × (18446744073709551615 - k ≡ pattern z)
below (pos n) h t =
    let f : ltb n 0 ≡ true = sym (ap (λ (x : ℤ). lt_z x (pos 0)) (to_z_pos w64 h.sfits)) ∙ t in
    absurd (omega (arith, ltb-true n 0 f))
below (negsuc k) h t =
    let e : 18446744073709551615 - (18446744073709551616 - suc k) ≡ k = omega (arith, h.sfits) in
    (k, ap (to_z w64) e ∙ to_z_pos w64 h.sfits, h.sfits, λ i. 18446744073709551615 - k)

pub above : (z : ℤ) → SFits w64 z → lt_z (to_z w64 (of_z w64 z)) (pos 0) ≡ false → (k : ℕ) × (to_z w64 (of_z w64 z) ≡ pos k) × (k < 2 ^ 63) × (k ≡ pattern z)
above (pos n) h t = (n, to_z_pos w64 h.sfits, h.sfits, λ i. n)
above (negsuc k) h t = let z : ◌≡◌ {A = ℕ} 0 1 = cc (ap (λ (x : ℤ). lt_z x (pos 0)) (to_z-of_z h)) in absurd (omega arith)

-- a coordinate made wider is the same number
pub widened : {y z : ℤ} → SFits w32 z → y ≡ to_z w32 (of_z w32 z) → to_z w64 (of_z w64 y) ≡ z
widened h e = ap (λ (y : ℤ). to_z w64 (of_z w64 y)) (e ∙ to_z-of_z h) ∙ to_z-of_z {w = w64} (sfits_widen tt h)

-- and comes back from the low half of its pattern
pub pattern-back : (z : ℤ) → SFits w32 z → signed 31 (low32 (pattern z)) ≡ z
pattern-back (pos n) h =
    let e : n % 4294967296 ≡ n = omega (arith, h.sfits) in
    rw e (sym (signed32 n) ∙ to_z_pos w32 h.sfits)
pattern-back (negsuc n) h =
    let e : (18446744073709551615 - n) % 4294967296 ≡ 4294967296 - suc n = omega (arith, h.sfits) in
    rw e (sym (signed32 _) ∙ to_z-neg w32 n h.sfits)

-- a place comes back from its words where each part does
pub stands :
    (p : Place) → start_by (start_words p.start) 0 ≡ p.start → cursor_by (cursor_words p.cursor) 0 ≡ p.cursor → inside_by (inside_words p.inside) 0 ≡ p.inside →
    StandFor (words_of p) p
unfolding words_of place_by start_by cursor_by inside_by
stands p x y z = (refl, λ i. record { start = x i; left = p.left; cursor = y i; inside = z i })
