-- Laws of the definitions: a stored value lies in the file, and the two kinds of places.
use mathlib.Core.Path.{◌≡◌}
use mathlib.Core.List.{List}
use mathlib.Core.Bool.{true, false}
use Prim.Native.Nat.{ℕ, ◌+◌, ◌*◌, ◌≤◌, ◌<◌}
use native.Mathlib.Nat.{mul-le-mul_right, suc-mul}
use native.Mathlib.Omega.{arith}
use lib.ListN.{length}
use Rattle.fields.specs.Parse.{when}
use Rattle.half.specs.Half.{stored_value}
use Rattle.masks.specs.Masks.{count_below}
use Rattle.masks.proofs.Laws.{count-le, count-strict}
use Rattle.forms.specs.declared.Coding.{Coding}
use Rattle.runs.specs.Runs.{is_stored, number_of}
use Rattle.runs.specs.Inner.{Held}
use Rattle.runs.specs.declared.Values.{Values}
use Rattle.values.specs.Values.{inactive_value, place_value}
use Rattle.values.specs.Inner.{InRun}

-- a stored value lies in its run
pub in-run : (start k count width end : ℕ) → k < count → start + count * width ≤ end → start + k * width + width ≤ end
in-run start k count width end h l = omega (arith, mul-le-mul_right width h, suc-mul k width)

-- a stored place of values that are held: its number is small, and its stored value lies in the file
pub held_place :
    {c : Coding} {s : List ℕ} {n child value : ℕ} {v : Values} {p k : ℕ} → Held s c n child value v → p < 8 * n → k ≡ number_of s v.stored child value p →
    is_stored s v.stored child value p ≡ true → InRun s c v.start k
held_place {c} {s} {n} {child} {value} {v} {p} {k} held h e b =
    let f = is_stored s v.stored child value in
    let small : k < 32768 = omega (arith, count-le f p, held.value-mask.small) in
    (small, in-run v.start k (count_below f (8 * n)) c.width (length s) (rw e (count-strict f p (8 * n) b h)) held.run)

-- the value of a stored place, and of another
module _ (c : Coding) (s : List ℕ) (child value : ℕ) (v : Values) (p : ℕ) where
  pub stored-place : is_stored s v.stored child value p ≡ true → place_value s c child value v p ≡ stored_value s c.width (v.start + number_of s v.stored child value p * c.width)
  unfolding place_value when
  stored-place e = rw e

  pub other_place : is_stored s v.stored child value p ≡ false → place_value s c child value v p ≡ inactive_value s v.inactives p
  unfolding place_value when
  other_place e = rw e
