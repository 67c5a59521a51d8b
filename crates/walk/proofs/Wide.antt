-- A width is 2 or 4: the definition's test, the code's test, and what follows from either.
use mathlib.Core.Path.{◌≡◌, refl, sym, ◌∙◌}
use mathlib.Core.Bool.{Bool, true, false, ◌||◌, true≢false}
use Prim.Native.Nat.{ℕ}
use native.Mathlib.Omega.{arith}
use lib.Dec.{eqb, lit≤}
use borrow.Author.Tests.{eqb-true, eqb-false}
use Rattle.half.specs.Inner.{IsWidth}
use Rattle.walk.specs.Inner.{is_wide}

pub wide-width : (w : ℕ) → is_wide w ≡ true → IsWidth w
wide-width w e = go (eqb w 2) (eqb w 4) refl refl e
  where
    go : (a b : Bool) → eqb w 2 ≡ a → eqb w 4 ≡ b → (a || b) ≡ true → IsWidth w
    go true b d f e = rw (eqb-true w 2 d) (lit≤ tt, lit≤ tt, refl)
    go false true d f e = rw (eqb-true w 4 f) (lit≤ tt, lit≤ tt, refl)
    go false false d f e = absurd (true≢false (sym e))

pub wide_is : (w : ℕ) → IsWidth w → is_wide w ≡ true
wide_is w h = go (eqb w 2) refl
  where
    go : (a : Bool) → eqb w 2 ≡ a → (a || eqb w 4) ≡ true
    go true e = refl
    go false e =
        let d : w ≡ 4 = omega (arith, h.0, h.1, h.2, eqb-false w 2 e) in
        rw d

-- the code's test is the definition's
pub told-wide : {r : Bool} (w : ℕ) → (r ≡ true → IsWidth w) × (IsWidth w → r ≡ true) → r ≡ is_wide w
told-wide {r} w h = go r (is_wide w) refl refl
  where
    go : (a b : Bool) → r ≡ a → is_wide w ≡ b → r ≡ is_wide w
    go true true e f = e ∙ sym f
    go false false e f = e ∙ sym f
    go true false e f = e ∙ sym (wide_is w (h.0 e))
    go false true e f = h.1 (wide-width w f) ∙ sym f
