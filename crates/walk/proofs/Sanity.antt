-- That the promise says something: the place after m records is another one for each m, and the number left is one of its words; and section 8's
-- example of check 22 holds of every grid with a record, since from its fresh place a call with slots over no bytes at all is refused with 22.
use mathlib.Core.Path.{◌≡◌, refl, sym, ap, ◌∙◌}
use mathlib.Core.List.{List, []}
use Prim.Native.Nat.{ℕ, ◌+◌, ◌-◌, ◌≤◌, ◌<◌}
use native.Mathlib.Omega.{arith}
use lib.ListN.{length}
use Rattle.fields.specs.Parse.{when}
use Rattle.fields.specs.Answer.{gives, refuses}
use Rattle.archive.specs.declared.Asked.{Asked}
use Rattle.fields.proofs.Answers.{gives_same}
use Rattle.slots.specs.Slots.{Slots, slot_count}
use Rattle.place.specs.Inner.{place_from}
use Rattle.place.specs.declared.Place.{Place}
use Rattle.place.proofs.Places.{after_none}
use Rattle.grid.specs.Grid.{Grid, grid, active_of, place_after}
use Rattle.std.proofs.Common.{Result}
use Rattle.fields.specs.Says.{says_answer}
use Rattle.fields.specs.declared.ParseError.{ParseError}
use Rattle.walk.specs.Walk.{needed_next, Promise}
use Rattle.walk.specs.declared.Walked.{Walked}

-- the place after m records has the number left,
pub place-left : (s : List ℕ) (g : Grid) (m : ℕ) → (place_after s g m).left ≡ length (active_of s g) - m
unfolding place_after place_from
place-left s g m = refl

-- so no two of them are the same
pub place-own : (s : List ℕ) (g : Grid) (m k : ℕ) → m ≤ length (active_of s g) → k ≤ length (active_of s g) → place_after s g m ≡ place_after s g k → m ≡ k
place-own s g m k a b e =
    let d : length (active_of s g) - m ≡ length (active_of s g) - k = sym (place-left s g m) ∙ ap (λ (p : Place). p.left) e ∙ place-left s g k in
    omega (arith, a, b, d)

-- a fresh place needs the first root's origin next,
pub fresh-needs : (s : List ℕ) (g : Grid) → needed_next (place_after s g 0) ≡ record { start = g.head.roots_pos; bytes = 12 }
unfolding place_after needed_next when
fresh-needs s g = rw (after_none s _)

-- which no empty file has
pub row-22 :
    (s : List ℕ) (g : Grid) (before after : Slots) (r : Result Walked ParseError) → Promise [] (place_after s g 0) before r after → 0 < slot_count before → 0 < length (active_of s g) →
    says_answer r ≡ refuses 22
row-22 s g before after r q a b =
    let n : 0 < (place_after s g 0).left = rw (place-left s g 0) (omega (arith, b)) in
    let l : length {A = ℕ} [] < (needed_next (place_after s g 0)).start + (needed_next (place_after s g 0)).bytes = rw (fresh-needs s g) (omega arith) in
    q.past_end a n l

-- The first fact again, from the promise alone, whatever a place's words are: a call without slots tells how many are left.
pub left-told :
    (s : List ℕ) (asked : Asked) (name : List ℕ) (g : Grid) (m : ℕ) (before after : Slots) (r : Result Walked ParseError) → gives g ≡ grid s asked name → m ≤ length (active_of s g) →
    Promise s (place_after s g m) before r after → slot_count before ≡ 0 → (place_after s g m).left ≡ length (active_of s g) - m
left-told s asked name g m before after r e l q z =
    let a = gives_same (sym (q.no-slots z) ∙ (q.reached asked name g m e l refl).0) in
    ap (λ (w : Walked). w.left) a ∙ omega (arith, ap (λ (w : Walked). w.filled) a)
