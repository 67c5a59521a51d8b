-- Inner matter: only contracts of inner functions cite it, and nothing here has to be believed.
-- What a walk call does from any place.
use Rattle.std.specs.Prelude.{ℕ, Result, ◌-◌, min, List, [], Bool, ◌||◌, ◌≡◌, eqb, length}
use Rattle.fields.specs.Parse.{when}
use Rattle.fields.specs.Answer.{Answer, gives, refuses}
use Rattle.fields.specs.Says.{says_answer}
use Rattle.fields.specs.declared.ParseError.{ParseError}
use Rattle.tree.specs.Active.{Record}
use Rattle.slots.specs.Slots.{Slots, slot_count, laid_from}
use Rattle.place.specs.Inner.{Course, hand_on, moved}
use Rattle.place.specs.declared.Place.{Place}
use Rattle.walk.specs.declared.Walked.{Walked}

-- a width that values can have
abbrev pub is_wide : ℕ → Bool
is_wide width = eqb width 2 || eqb width 4

-- so many records are wanted
abbrev pub wanted : Place → ℕ → ℕ
wanted p k = min k p.left

-- where the walk goes
abbrev pub course_from : List ℕ → Place → ℕ → Course
course_from s p k = hand_on s p.start.coding (wanted p k) p.cursor p.inside

-- the records handed out, and the answer with them
unfoldable pub found : List ℕ → Place → ℕ → List Record
found s p k = when (is_wide p.start.coding.width) (course_from s p k).records []

abbrev pub stands : Place → Course → Walked
stands p a = record { place = moved p (p.left - length a.records) a.cursor a.inside; filled = length a.records; left = p.left - length a.records }

unfoldable pub walk_from : List ℕ → Place → ℕ → Answer Walked
walk_from s p k =
    when (eqb (wanted p k) 0) (gives (record { place = p; filled = 0; left = p.left }))
    (when (eqb (length (found s p k)) 0) (refuses 22) (gives (stands p (course_from s p k))))

-- the call does this
pub record Does (s : List ℕ) (p : Place) (before : Slots) (r : Result Walked ParseError) (after : Slots) : Type 0 where
  pub answer : says_answer r ≡ walk_from s p (slot_count before)
  pub slots : after ≡ when (eqb (wanted p (slot_count before)) 0) before (laid_from before 0 (found s p (slot_count before)))
