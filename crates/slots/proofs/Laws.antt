-- Slots: a record put in, or several, leave as many as there were. Values: where one lies in the file.
use mathlib.Core.Path.{◌≡◌, refl}
use mathlib.Core.List.{List, [], ◌∷◌, ◌++◌}
use Prim.Native.Nat.{ℕ, suc, ◌+◌, ◌-◌, ◌*◌, ◌/◌, ◌≤◌, ◌<◌}
use native.Mathlib.Nat.{add-zero, le-div_iff_mul-le, suc-mul}
use native.Mathlib.Omega.{arith}
use lib.ListN.{length, length-set}
use Rattle.forms.specs.declared.Coding.{Coding}
use Rattle.half.specs.Inner.{IsWidth}
use Rattle.tree.specs.Active.{Record}
use Rattle.slots.specs.Slots.{Slots, put, laid_from}
use Rattle.slots.specs.Inner.{Room, standing, Readable}
use Rattle.slots.specs.declared.Inside.{Inside}

-- two rows have as many slots
pub record Same (t t₀ : Slots) : Type 0 where
  pub in-x : length t.x ≡ length t₀.x
  pub in-y : length t.y ≡ length t₀.y
  pub in-z : length t.z ≡ length t₀.z
  pub in-level : length t.level ≡ length t₀.level
  pub in-value : length t.value ≡ length t₀.value

pub same : (t : Slots) → Same t t
same t = record { in-x = refl; in-y = refl; in-z = refl; in-level = refl; in-value = refl }

-- a record in slot i: as many slots as before
pub put_same : (t t' : Slots) (i : ℕ) (r : Record) → t' ≡ put t i r → {t₀ : Slots} → Same t t₀ → Same t' t₀
put_same t t' i r e h =
    rw e record {
      in-x = simp length-set h.in-x;
      in-y = simp length-set h.in-y;
      in-z = simp length-set h.in-z;
      in-level = simp length-set h.in-level;
      in-value = simp length-set h.in-value;
    }

pub room-less : {n m : ℕ} (t : Slots) → m ≤ n → Room n t → Room m t
room-less t l h =
    record {
      in-x = omega (arith, h.in-x);
      in-y = omega (arith, h.in-y);
      in-z = omega (arith, h.in-z);
      in-level = omega (arith, h.in-level);
      in-value = omega (arith, h.in-value);
    }

pub room-same : {n : ℕ} {t t₀ : Slots} → Same t t₀ → Room n t₀ → Room n t
room-same h g =
    record {
      in-x = rw h.in-x g.in-x;
      in-y = rw h.in-y g.in-y;
      in-z = rw h.in-z g.in-z;
      in-level = rw h.in-level g.in-level;
      in-value = rw h.in-value g.in-value;
    }

pub put-room : (t t' : Slots) (i : ℕ) (r : Record) → t' ≡ put t i r → {n : ℕ} → Room n t → Room n t'
put-room t t' i r e h = room-same (put_same t t' i r e (same t)) h

pub laid-append : (t : Slots) (i : ℕ) (us vs : List Record) → laid_from t i (us ++ vs) ≡ laid_from (laid_from t i us) (i + length us) vs
unfolding laid_from
laid-append t i [] vs = rw add-zero
laid-append t i (u ∷ us) vs =
    let e : i + suc (length us) ≡ suc i + length us = omega arith in
    rw e (laid-append (put t i u) (suc i) us vs)

-- filling keeps the slots that there are
pub laid_same : (t : Slots) (i : ℕ) (rs : List Record) {t₀ : Slots} → Same t t₀ → Same (laid_from t i rs) t₀
unfolding laid_from
laid_same t i [] h = h
laid_same t i (r ∷ rs) h = laid_same (put t i r) (suc i) rs (put_same t _ i r refl h)

-- a value whose number is below the room lies in the file
pub in-room : (n start width k : ℕ) → IsWidth width → k < (n - start) / width → start + k * width + width ≤ n
in-room n start width k h l =
    let w : 0 < width = omega (arith, h.0) in
    let e : suc k * width ≤ n - start = (le-div_iff_mul-le w).0 l in
    let d : suc k * width ≡ k * width + width = suc-mul k width in
    omega arith

-- a reader goes on
pub readable-on :
    (s : List ℕ) (c : Coding) (room : ℕ) (w : Inside) (p k : ℕ) → k ≤ p → Readable s c room w → Readable s c room (standing w p k)
readable-on s c room w p k l h = record { width = h.width; values = h.values; multiple = h.multiple; number = l }
