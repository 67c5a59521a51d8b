-- A mask that was read whole lies in the file, and so does the selection mask that a node brings.
use mathlib.Core.Path.{◌≡◌, ap}
use mathlib.Core.List.{List}
use mathlib.Core.Bool.{Bool, true, false}
use Prim.Native.Nat.{ℕ, ◌%◌, ◌≤◌}
use native.Mathlib.Omega.{arith}
use Rattle.fields.specs.Parse.{got, when}
use Rattle.fields.specs.Fields.{bytes_field}
use Rattle.fields.specs.declared.Span.{Span}
use Rattle.fields.proofs.Laws.{field_back, Always, then-always, got-always}
use Rattle.masks.specs.Inner.{IsMask}
use Rattle.forms.specs.Forms.{selection_field, inactives_field, head_field}
use Rattle.forms.specs.Inner.{SelectionHeld}
use Rattle.forms.specs.declared.Coding.{Coding}
use Rattle.forms.specs.declared.Form.{Form}
use Rattle.forms.specs.declared.Stored.{Stored}

-- a mask that was read whole lies in the file
pub whole-mask : (s : List ℕ) (at n : ℕ) {w : Span} {p : ℕ} → n % 8 ≡ 0 → n ≤ 4096 → got w p ≡ bytes_field s n at → IsMask s w.start n
whole-mask s at n {w} h k e =
    let b = field_back s at n _ e in
    let f : w.start ≡ at = ap (λ (w : Span). w.start) b.1 in
    record { within = omega arith; words = h; small = k }

-- A selection mask that is brought lies in the file.
selection-held : (brought : Bool) (s : List ℕ) (n at : ℕ) → n % 8 ≡ 0 → n ≤ 4096 → Always (λ w p. SelectionHeld s n w) (selection_field s brought n at)
unfolding selection_field when
selection-held true s n at h k = then-always _ _ _ λ w p e. got-always _ _ _ (whole-mask s at n h k e)
selection-held false s n at h k = got-always _ _ _ tt

inactives-held :
    (background : ℕ) (form : Form) (s : List ℕ) (n at : ℕ) → n % 8 ≡ 0 → n ≤ 4096 →
    Always (λ v p. SelectionHeld s n v.selection) (inactives_field s background form n at)
unfolding inactives_field
inactives-held background form s n at h k = then-always _ _ _ λ first p e. then-always _ _ _ λ second q f. then-always _ _ _ λ w r g. got-always _ _ _
    (selection-held _ s n q h k w r g)

pub head-held : (c : Coding) (old : Stored) (s : List ℕ) (n at : ℕ) → n % 8 ≡ 0 → n ≤ 4096 → Always (λ h p. SelectionHeld s n h.inactives.selection) (head_field s c old n at)
unfolding head_field
head-held c old s n at h k = then-always _ _ _ λ form p e. then-always _ _ _ λ v q f. got-always _ _ _ (inactives-held _ form s n p h k v q f)
