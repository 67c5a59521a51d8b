-- What the parse of stored values reads: two files that are the same there give the same, and tell that masks and run are the same.
use mathlib.Core.Path.{◌≡◌, refl, ap}
use mathlib.Core.Bool.{not}
use mathlib.Core.List.{List}
use Prim.Native.Nat.{ℕ, ◌*◌, ◌≤◌, ◌<◌}
use native.Mathlib.Omega.{arith}
use lib.ListN.{length}
use Rattle.fields.specs.Parse.{got}
use Rattle.fields.proofs.Laws.{Always, then-always, got-always}
use Rattle.fields.proofs.Agree.{reads, Same, Known, Tells, got-tells, then-tells, then-plain, swap-tells, part-tells, keep, SameFor}
use Rattle.masks.proofs.Laws.{ones-ext}
use Rattle.masks.proofs.Agree.{bit-same}
use Rattle.forms.specs.declared.Coding.{Coding}
use Rattle.forms.specs.declared.Stored.{Stored}
use Rattle.forms.specs.declared.Stored.TheVariants.{Every, Active, Childless}
use Rattle.forms.proofs.Agree.{SameSelection, head-tells}
use Rattle.runs.specs.Runs.{is_stored, number_of, count_of, size_checked, number_field, run_field, values_field}
use Rattle.runs.specs.declared.Values.{Values}
use Rattle.runs.proofs.Laws.{run-back}

run-tells : {s t : List ℕ} {lo at : ℕ} (c : Coding) (count : ℕ) → Tells s t lo at (λ w. SameFor s t (count * c.width) w.start) (run_field s c count at) (run_field t c count at)
unfolding run_field number_field size_checked
run-tells c count = then-plain (search reads) λ u p e. part-tells (count * c.width)

-- which places are stored is the same where the masks are, and so are the numbers and the count
module _ {s t : List ℕ} {child value : ℕ} (n : ℕ) (g : SameFor s t n child) (h : SameFor s t n value) where
  pub stored_same : (stored : Stored) (p : ℕ) → p < 8 * n → is_stored s stored child value p ≡ is_stored t stored child value p
  unfolding is_stored
  stored_same Every p l = refl
  stored_same Active p l = bit-same n p h l
  stored_same Childless p l = ap not (bit-same n p g l)

  pub number_same : (stored : Stored) (p : ℕ) → p ≤ 8 * n → number_of s stored child value p ≡ number_of t stored child value p
  number_same stored p l = ap length (ones-ext _ _ p 0 λ q x y. stored_same stored q (omega arith))

-- what the readers of a place look at is the same in both files: the masks, and the run
pub record SameValues (s t : List ℕ) (c : Coding) (n child value : ℕ) (v : Values) : Type 0 where
  pub child-mask : SameFor s t n child
  pub value-mask : SameFor s t n value
  pub selection-mask : SameSelection s t n v.inactives.selection
  pub run : SameFor s t (count_of s v.stored n child value * c.width) v.start

pub values-tells :
    {s t : List ℕ} {lo at : ℕ} (c : Coding) (old : Stored) (n child value : ℕ) → Known s t lo at (SameFor s t n child) → Known s t lo at (SameFor s t n value) →
    Tells s t lo at (SameValues s t c n child value) (values_field s c old n child value at) (values_field t c old n child value at)
unfolding values_field
values-tells {s} {t} c old n child value g h =
    then-tells (head-tells c old n) λ head p e x.
    let child : Known s t _ p (SameFor s t n child) = keep e g in
    let value : Known s t _ p (SameFor s t n value) = keep e h in
    then-tells (swap-tells (λ l k. ap (λ (count : ℕ). run_field t c count p) (number_same n (child l k) (value l k) head.stored (8 * n) (omega arith))) (run-tells c _)) λ run q f y.
    got-tells (SameValues s t c n _ _) λ l k. record { child-mask = keep f child l k; value-mask = keep f value l k; selection-mask = keep f x l k; run = y l k }

-- where the values end: at or after their start, and in the file
pub values-ends :
    (c : Coding) (old : Stored) (s : List ℕ) (n child value at : ℕ) {v : Values} {e : ℕ} → got v e ≡ values_field s c old n child value at →
    (at ≤ e) × (e ≤ length s)
unfolding values_field
values-ends c old s n child value at {v} {e} g = ((values-tells {lo = at} c old n child value (λ l h. itself) (λ l h. itself)).reads.after v e g (omega arith), inside v e g)
  where
    itself : {a b : ℕ} → Same s s a b
    itself = record { long = refl; byte = λ i l h. refl }

    inside : Always (λ v e. e ≤ length s) (values_field s c old n child value at)
    inside = then-always _ _ _ λ head p e. then-always _ _ _ λ run q f. got-always _ _ _ (omega (arith, run-back c _ s p f))
