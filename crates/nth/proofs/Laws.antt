-- Laws of the search for a one of a mask.
use mathlib.Core.Path.{◌≡◌, refl, sym, ap, ◌∙◌}
use mathlib.Core.Bool.{Bool}
use mathlib.Core.List.{List}
use Prim.Native.Nat.{ℕ, zero, suc, ◌+◌, ◌-◌, ◌*◌, ◌≤◌, ◌<◌}
use native.Mathlib.Numerals.{add-one}
use native.Mathlib.Omega.{arith}
use Rattle.std.proofs.Common.{None, Some}
use Rattle.coordinates.specs.declared.Index.{Index}
use Rattle.masks.specs.Masks.{mask_bit, count_below}
use Rattle.masks.specs.Inner.{IsMask, next_one}
use Rattle.masks.proofs.Laws.{next-lt, next-from, next_one_lem, next-count, next-none-count, count-suc-one, count-le}
use Rattle.runs.specs.Runs.{is_stored, number_of}
use Rattle.forms.specs.declared.Stored.{Stored}
use Rattle.forms.specs.declared.Stored.TheVariants.{Childless}
use Rattle.slots.specs.Inner.{mask_bytes, standing}
use Rattle.slots.specs.declared.Inside.{Inside}
use Rattle.nth.specs.Inner.{stored_of, IsOne, HasOne, BehindOne}

-- Of n places, p is reached, and so many ones are left to pass before that with the number k.
module _ (f : ℕ → Bool) (n p left k : ℕ) (reached : count_below f p + left ≡ k) where
  -- there is one more, so the search does not end here
  pub one-missing : p ≤ n → k < count_below f n → None ≡ next_one f n p → ⊥
  one-missing l h e = omega (arith, reached, h, next-none-count f n p l (sym e))

  module _ (q : Index) (e : Some q ≡ next_one f n p) where
    pub next-below : q.0 < n
    next-below = next-lt f n p q (sym e)

    pub next-behind : p ≤ q.0
    next-behind = next-from f n p q (sym e)

    pub one-here : left ≡ 0 → IsOne f n k q.0
    one-here z = record { inside = next-below; one = next_one_lem f n p q (sym e); number = omega (arith, reached, z, next-count f n p q (sym e)) }

    pub one_on : (left ≡ 0 → ⊥) → count_below f (q.0 + 1) + (left - 1) ≡ k
    one_on z = rw (add-one q.0, count-suc-one f q.0 (next_one_lem f n p q (sym e)), next-count f n p q (sym e)) (omega (arith, reached, z))

-- the number of a place's stored value is small
pub number_small : (s : List ℕ) (st : Stored) (child value p n : ℕ) {k : ℕ} → k ≡ number_of s st child value p → p < 8 * n → n ≤ 4096 → k < 32768
number_small s st child value p n e l h = omega (arith, e, count-le (is_stored s st child value) p)

-- a walk keeps 0, 1 or another number
pub stored-else : (n : ℕ) → 1 < n → Childless ≡ stored_of n
stored-else zero l = absurd (omega arith)
stored-else (suc zero) l = absurd (omega arith)
stored-else (suc (suc n)) l = refl

-- the record's bit is one of the mask's, and where its place is found the walk stands behind it
module _ (s : List ℕ) (w : Inside) (k : ℕ) (h : HasOne s w k) {n : ℕ} (e : n ≡ mask_bytes w.level) where
  pub has-bit : IsMask s w.value_mask n × (k < count_below (mask_bit s w.value_mask) (8 * n))
  has-bit = (rw e h.value, rw e h.more)

  pub stands-so :
      {p number : ℕ} {st : Stored} {r : Inside} → IsOne (mask_bit s w.value_mask) (8 * n) k p → st ≡ stored_of w.stored → number ≡ number_of s st w.child_mask w.value_mask p →
      r ≡ standing w (p + 1) (number + 1) → BehindOne s w k r
  stands-so {p} one f d g = record {
    place = p;
    one = rw e at one;
    stands = g ∙ ap (λ (m : ℕ). standing w (p + 1) (m + 1)) (d ∙ ap (λ (st : Stored). number_of s st w.child_mask w.value_mask p) f);
  }
