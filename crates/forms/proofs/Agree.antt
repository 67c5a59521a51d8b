-- What the parse before the stored values reads: two files that are the same there give the same, and tell that the selection mask is the same.
use mathlib.Core.Bool.{Bool, true, false}
use mathlib.Core.List.{List}
use Prim.Native.Nat.{ℕ}
use Rattle.std.proofs.Common.{Option, Some, None}
use Rattle.fields.proofs.Agree.{Reads, reads, Tells, got-tells, then-tells, then-plain, part-tells, SameFor}
use Rattle.fields.specs.Parse.{when}
use Rattle.forms.specs.Forms.{form_selected, form_field, inactive_field, selection_field, inactives_field, head_field}
use Rattle.forms.specs.declared.Coding.{Coding}
use Rattle.forms.specs.declared.Form.{Form}
use Rattle.forms.specs.declared.Stored.{Stored}

form-reads : {s t : List ℕ} {lo at : ℕ} (version : ℕ) → Reads s t lo at (form_field s version at) (form_field t version at)
unfolding form_field form_selected
form-reads version = search reads

inactive-reads : {s t : List ℕ} {lo at : ℕ} (b : Bool) (other : ℕ) → Reads s t lo at (inactive_field s b other at) (inactive_field t b other at)
unfolding inactive_field
inactive-reads b other = search reads

-- a selection mask of n bytes, where there is one, is the same in both files
abbrev pub SameSelection : List ℕ → List ℕ → ℕ → Option ℕ → Type 0
SameSelection s t n (Some at) = SameFor s t n at
SameSelection s t n None = Unit {0}

selection-tells : {s t : List ℕ} {lo at : ℕ} (b : Bool) (n : ℕ) → Tells s t lo at (SameSelection s t n) (selection_field s b n at) (selection_field t b n at)
unfolding selection_field when
selection-tells {s} {t} true n = then-tells (part-tells n) λ w p e x. got-tells (SameSelection s t n) x
selection-tells {s} {t} false n = got-tells (SameSelection s t n) λ l h. tt

inactives-tells :
    {s t : List ℕ} {lo at : ℕ} (background : ℕ) (form : Form) (n : ℕ) →
    Tells s t lo at (λ v. SameSelection s t n v.selection) (inactives_field s background form n at) (inactives_field t background form n at)
unfolding inactives_field
inactives-tells {s} {t} background form n =
    then-plain (inactive-reads _ _) λ first p e. then-plain (inactive-reads _ _) λ second q f. then-tells (selection-tells _ n) λ w r g x.
    got-tells (λ v. SameSelection s t n v.selection) x

pub head-tells :
    {s t : List ℕ} {lo at : ℕ} (c : Coding) (old : Stored) (n : ℕ) →
    Tells s t lo at (λ h. SameSelection s t n h.inactives.selection) (head_field s c old n at) (head_field t c old n at)
unfolding head_field
head-tells {s} {t} c old n =
    then-plain (form-reads _) λ form p e. then-tells (inactives-tells _ form n) λ inactives q f x. got-tells (λ h. SameSelection s t n h.inactives.selection) x
