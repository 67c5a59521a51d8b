-- A run: slots filled one after the other, slice by slice, have the records of as many places.
use mathlib.Core.Path.{◌≡◌, refl, ap, ◌∙◌}
use mathlib.Core.List.{List, [], ◌∷◌}
use Prim.Native.Nat.{ℕ, zero, suc, ◌+◌, ◌≤◌}
use native.Mathlib.Nat.{suc-mul}
use native.Mathlib.Omega.{arith}
use lib.ListN.{length, length-append}
use Rattle.forms.specs.declared.Coding.{Coding}
use Rattle.batch.specs.Inner.{ranged, numbered, InFile}
use Rattle.slots.specs.Slots.{Slots, put, slots_of, laid_from}
use Rattle.slots.specs.declared.Axis.TheVariants.{X, Y, Z}
use Rattle.slots.specs.Inner.{Readable, record_of, corner_at, run_of, axis_of}
use Rattle.slots.specs.declared.Inside.{Inside}
use Rattle.slots.proofs.Laws.{in-room, laid-append}

module _ (s : List ℕ) (c : Coding) (w : Inside) where
  pub length_run : (n : ℕ) → length (run_of s c w n) ≡ n
  unfolding run_of
  length_run zero = refl
  length_run (suc n) = omega (arith, length-append (run_of s c w n) (record_of (corner_at w n) w.level (numbered s c w.start w.number n) ∷ []), length_run n)

  module _ (t : Slots) (i : ℕ) where
    -- one more record
    pub laid-run : (n : ℕ) → laid_from t i (run_of s c w (suc n)) ≡ put (laid_from t i (run_of s c w n)) (i + n) (record_of (corner_at w n) w.level (numbered s c w.start w.number n))
    unfolding run_of laid_from
    laid-run n = laid-append t i (run_of s c w n) _ ∙ rw length_run

    -- slice by slice
    pub laid-ranged :
        (n : ℕ) → laid_from t i (run_of s c w n) ≡ slots_of (ranged t.x i n (λ k. axis_of (corner_at w k) X)) (ranged t.y i n (λ k. axis_of (corner_at w k) Y))
        (ranged t.z i n (λ k. axis_of (corner_at w k) Z)) (ranged t.level i n (λ k. w.level)) (ranged t.value i n (numbered s c w.start w.number))
    unfolding run_of laid_from ranged
    laid-ranged zero = refl
    laid-ranged (suc n) = laid-run n ∙ ap (λ (u : Slots). put u (i + n) (record_of (corner_at w n) w.level (numbered s c w.start w.number n))) (laid-ranged n)

  -- as many stored values as there is room for lie in the file
  pub room-in-file : (room : ℕ) → Readable s c room w → w.from ≤ 32704 → w.number + 64 ≤ room → InFile s c w.start w.number 64
  room-in-file room h f l =
      let last = in-room (length s) w.start c.width (w.number + 63) h.width (omega (arith, h.values)) in
      let all : suc (w.number + 63) ≡ w.number + 64 = omega arith in
      record { width = h.width; few = omega (arith, h.number); within = omega (arith, last, rw all at (suc-mul (w.number + 63) c.width)) }
