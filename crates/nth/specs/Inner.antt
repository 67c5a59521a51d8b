-- Inner matter: only contracts of inner functions cite it, and nothing here has to be believed.
use Rattle.std.specs.Prelude.{ℕ, zero, suc, ◌+◌, ◌*◌, ◌<◌, ◌≡◌, List, Bool, true}
use Rattle.masks.specs.Masks.{mask_bit, count_below}
use Rattle.masks.specs.Inner.{IsMask}
use Rattle.runs.specs.Runs.{number_of}
use Rattle.forms.specs.declared.Stored.{Stored}
use Rattle.forms.specs.declared.Stored.TheVariants.{Every, Active, Childless}
use Rattle.slots.specs.Inner.{mask_bytes, standing}
use Rattle.slots.specs.declared.Inside.{Inside}

-- which places of a piece are stored, by the number that a walk keeps
abbrev pub stored_of : ℕ → Stored
stored_of zero = Every
stored_of (suc zero) = Active
stored_of (suc (suc n)) = Childless

-- the place p, of n places, is a one, and k ones are before it
pub record IsOne (f : ℕ → Bool) (n k p : ℕ) : Type 0 where
  pub inside : p < n
  pub one : f p ≡ true
  pub number : count_below f p ≡ k

-- Both masks of the piece that a walk stands in lie in the file, and it lists a record with the number k, from 0.
pub record HasOne (s : List ℕ) (w : Inside) (k : ℕ) : Type 0 where
  pub child : IsMask s w.child_mask (mask_bytes w.level)
  pub value : IsMask s w.value_mask (mask_bytes w.level)
  pub more : k < count_below (mask_bit s w.value_mask) (8 * mask_bytes w.level)

-- the walk right behind the place of that record
pub record BehindOne (s : List ℕ) (w : Inside) (k : ℕ) (r : Inside) : Type 0 where
  pub place : ℕ
  pub one : IsOne (mask_bit s w.value_mask) (8 * mask_bytes w.level) k place
  pub stands : r ≡ standing w (place + 1) (number_of s (stored_of w.stored) w.child_mask w.value_mask place + 1)
