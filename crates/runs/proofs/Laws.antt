-- Laws of the definitions: how many values are stored, what values that were read have, and that an active place is stored.
use mathlib.Core.Path.{◌≡◌, refl, sym, ap, ◌∙◌}
use mathlib.Core.List.{List}
use mathlib.Core.Bool.{Bool, true, false, not, false≢true}
use Prim.Native.Nat.{ℕ, zero, suc, ◌+◌, ◌*◌, ◌≤◌, ◌<◌}
use native.Mathlib.Omega.{arith}
use lib.ListN.{length}
use Rattle.fields.specs.Parse.{got, then, when}
use Rattle.fields.specs.Inner.{end_of}
use Rattle.fields.specs.declared.Span.{Span}
use Rattle.fields.proofs.Laws.{through, made_then, field_back, then-back, Always, then-always, got-always}
use Rattle.half.specs.Inner.{IsWidth}
use Rattle.masks.specs.Masks.{mask_bit, count_below, overlap}
use Rattle.masks.specs.Inner.{IsMask}
use Rattle.masks.proofs.Laws.{ones_none, count-le, count-suc-one, overlap-apart}
use Rattle.forms.specs.Forms.{stored_by, head_field}
use Rattle.forms.specs.declared.Coding.{Coding}
use Rattle.forms.specs.declared.Stored.{Stored}
use Rattle.forms.specs.declared.Stored.TheVariants.{Every, Active, Childless}
use Rattle.forms.proofs.Laws.{head-held}
use Rattle.runs.specs.Runs.{is_stored, count_of, run_field, values_field}
use Rattle.runs.specs.Inner.{Held}
use Rattle.runs.specs.declared.Values.{Values}

-- where every place is stored, a place is its own number
pub count-every : (p : ℕ) → p ≡ count_below (λ q. true) p
count-every zero = sym (ap length (ones_none (λ q. true) 0))
count-every (suc p) = ap suc (count-every p) ∙ sym (count-suc-one (λ q. true) p refl)

-- a node has at most 32,768 places
pub count_small : (f : ℕ → Bool) (n : ℕ) → n ≤ 4096 → count_below f (8 * n) ≤ 32768
count_small f n h = omega (arith, count-le f (8 * n))

-- What values that were read have: the selection mask and the run lie in the file.
pub run-back :
    (c : Coding) (count : ℕ) (s : List ℕ) (at : ℕ) {w : Span} {e : ℕ} → got w e ≡ run_field s c count at →
    (w.start + count * c.width ≤ length s) × (e ≡ w.start + count * c.width)
unfolding run_field
run-back c count s at e =
    let y = then-back _ _ e in
    let b = field_back s y.1 (count * c.width) _ y.3 in
    let m = ap (λ (x : Span). x.start) b.1 in
    (rw m b.0, rw m b.2)

pub values-held :
    (c : Coding) (old : Stored) (s : List ℕ) (n child value at : ℕ) {v : Values} {e : ℕ} → IsMask s child n → IsMask s value n → IsWidth c.width →
    got v e ≡ values_field s c old n child value at → Held s c n child value v
unfolding values_field
values-held c old s n child value at {v} {e} a b w = read v e
  where
    read : Always (λ v e. Held s c n child value v) (values_field s c old n child value at)
    read = then-always _ _ _ λ head p f. then-always _ _ _ λ run q g. got-always _ _ _
        (record { width = w; child-mask = a; value-mask = b; selection-mask = head-held c old s n at b.words b.small head p f; run = (run-back c _ s p g).0 })

-- where values end, without what they are
pub values-end :
    (c : Coding) (old : Stored) (s : List ℕ) (n child value at : ℕ) →
    then (head_field s c old n at) (λ head p. then (run_field s c (count_of s head.stored n child value) p) (λ run e. got tt e)) ≡ end_of (values_field s c old n child value at)
unfolding values_field end_of
values-end c old s n child value at = through _ _ _ _ λ head p e. sym (made_then _ _ _)

-- An active place is stored: in a node where no place has both child and value bit, and in a leaf.
active-stored :
    (stored : Stored) (s : List ℕ) (child value p : ℕ) → mask_bit s value p ≡ true → (stored ≡ Childless → mask_bit s child p ≡ false) →
    is_stored s stored child value p ≡ true
unfolding is_stored
active-stored Every s child value p b free = refl
active-stored Active s child value p b free = b
active-stored Childless s child value p b free = ap not (free refl)

pub node-active :
    (stored : Stored) (s : List ℕ) (n child value p : ℕ) → overlap (mask_bit s child) (mask_bit s value) (8 * n) ≡ false → p < 8 * n → mask_bit s value p ≡ true →
    is_stored s stored child value p ≡ true
node-active stored s n child value p e h b = active-stored stored s child value p b (λ _. go (mask_bit s child p) refl)
  where
    go : (x : Bool) → mask_bit s child p ≡ x → x ≡ false
    go true q = absurd (false≢true (sym (overlap-apart (mask_bit s child) (mask_bit s value) (8 * n) p e h q) ∙ b))
    go false q = refl

leaf-stored : (a b : Bool) → when a Every (when b Active Every) ≡ Childless → ⊥
unfolding when
leaf-stored true b e = let z : ◌≡◌ {A = ℕ} 0 1 = cc in omega arith
leaf-stored false true e = let z : ◌≡◌ {A = ℕ} 0 1 = cc in omega arith
leaf-stored false false e = let z : ◌≡◌ {A = ℕ} 0 1 = cc in omega arith

pub leaf-active :
    (c : Coding) (s : List ℕ) (n child value at p : ℕ) {v : Values} {e : ℕ} → got v e ≡ values_field s c Every n child value at →
    mask_bit s value p ≡ true → is_stored s v.stored child value p ≡ true
unfolding values_field head_field stored_by
leaf-active c s n child value at p {v} {e} g b = read v e g
  where
    stored : Always (λ h q. h.stored ≡ Childless → ⊥) (head_field s c Every n at)
    stored = then-always _ _ _ λ form q f. then-always _ _ _ λ inactives r g. got-always _ _ _ (leaf-stored _ _)

    read : Always (λ v e. is_stored s v.stored child value p ≡ true) (values_field s c Every n child value at)
    read = then-always _ _ _ λ head q f. then-always _ _ _ λ run r g. got-always _ _ _
        (active-stored _ s child value p b (λ e. absurd (stored head q f e)))
