-- What the value of a place looks at: two files that are the same there give the same value.
use mathlib.Core.Path.{◌≡◌, refl, sym, ap, ap₂, ◌∙◌}
use mathlib.Core.Bool.{Bool, true, false, cond}
use mathlib.Core.List.{List, ◌∷◌}
use Prim.Native.Nat.{ℕ, zero, suc, ◌+◌, ◌*◌, ◌≤◌, ◌<◌}
use native.Mathlib.Omega.{arith}
use lib.Dec.{eqb}
use borrow.Author.Tests.{eqb-true, eqb-false}
use Rattle.fields.specs.Le.{u16_at, u32_at}
use Rattle.fields.specs.Parse.{when}
use Rattle.fields.proofs.Agree.{part, SameFor, u32-same}
use Rattle.half.specs.Inner.{IsWidth}
use Rattle.half.specs.Half.{widened, stored_value}
use Rattle.masks.proofs.Laws.{count-strict}
use Rattle.masks.proofs.Agree.{bit-same}
use Rattle.forms.specs.declared.Coding.{Coding}
use Rattle.forms.specs.declared.Inactives.{Inactives}
use Rattle.std.proofs.Common.{Option, Some, None}
use Rattle.forms.proofs.Agree.{SameSelection}
use Rattle.runs.specs.Runs.{is_stored, count_of}
use Rattle.runs.specs.declared.Values.{Values}
use Rattle.runs.proofs.Agree.{SameValues, stored_same, number_same}
use Rattle.values.specs.Values.{is_selected, inactive_value, place_value, values_from}
use Rattle.values.proofs.Laws.{in-run, stored-place, other_place}

-- The value of a place.
pub stored-value-same : {s t : List ℕ} {at : ℕ} (width : ℕ) → IsWidth width → SameFor s t width at → stored_value s width at ≡ stored_value t width at
unfolding stored_value
stored-value-same {s} {t} {at} width w h = go (eqb width 2) refl
  where
    go : (b : Bool) → eqb width 2 ≡ b → cond b (widened (u16_at s at)) (u32_at s at) ≡ cond b (widened (u16_at t at)) (u32_at t at)
    go true e =
        let k : width ≡ 2 = eqb-true _ _ e in
        ap₂ (λ (x y : ℕ). widened (x + 256 * y)) (h.byte at (omega arith) (omega arith)) (h.byte (at + 1) (omega arith) (omega arith))
    go false e =
        let k : width ≡ 2 → ⊥ = eqb-false _ _ e in
        u32-same at h (omega arith) (omega arith)

selected-same : (s t : List ℕ) (n : ℕ) (x : Option ℕ) (p : ℕ) → SameSelection s t n x → p < 8 * n → is_selected s x p ≡ is_selected t x p
unfolding is_selected
selected-same s t n (Some at) p h k = bit-same n p h k
selected-same s t n None p h k = refl

inactive-same : (s t : List ℕ) (n : ℕ) (v : Inactives) (p : ℕ) → SameSelection s t n v.selection → p < 8 * n → inactive_value s v p ≡ inactive_value t v p
unfolding inactive_value
inactive-same s t n v p h k = ap (λ (b : Bool). when b v.second v.first) (selected-same s t n v.selection p h k)

pub place_same :
    {s t : List ℕ} {c : Coding} {n child value : ℕ} {v : Values} (p : ℕ) → IsWidth c.width → SameValues s t c n child value v → p < 8 * n →
    place_value s c child value v p ≡ place_value t c child value v p
place_same {s} {t} {c} {n} {child} {value} {v} p w h k = go (is_stored s v.stored child value p) refl
  where
    same : is_stored s v.stored child value p ≡ is_stored t v.stored child value p
    same = stored_same n h.child-mask h.value-mask v.stored p k

    go : (b : Bool) → is_stored s v.stored child value p ≡ b → place_value s c child value v p ≡ place_value t c child value v p
    go true e =
        let b = count-strict (is_stored s v.stored child value) p (8 * n) e k in
        let i = in-run v.start _ _ c.width (v.start + count_of s v.stored n child value * c.width) b (omega arith) in
        stored-place c s child value v p e ∙ stored-value-same c.width w (part h.run (omega arith) i) ∙
        ap (λ (k : ℕ). stored_value t c.width (v.start + k * c.width)) (number_same n h.child-mask h.value-mask v.stored p (omega arith)) ∙
        sym (stored-place c t child value v p (sym same ∙ e))
    go false e = other_place c s child value v p e ∙ inactive-same s t n v.inactives p h.selection-mask k ∙ sym (other_place c t child value v p (sym same ∙ e))

-- all values from a place on
pub values_same :
    {s t : List ℕ} {c : Coding} {n child value : ℕ} {v : Values} (p k : ℕ) → IsWidth c.width → SameValues s t c n child value v → p + k ≤ 8 * n →
    values_from s c child value v p k ≡ values_from t c child value v p k
unfolding values_from
values_same p zero w h l = refl
values_same p (suc k) w h l = ap₂ ◌∷◌ (place_same p w h (omega arith)) (values_same (suc p) k w h (omega arith))
