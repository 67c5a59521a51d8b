-- Inner matter: only contracts of inner functions cite it, and nothing here has to be believed.
-- A walk call that is made of several calls of the core.
use Rattle.std.specs.Prelude.{ℕ, Result, Ok, Err, ◌+◌, ◌≤◌, ◌<◌, ◌≡◌, List, [], eqb, length}
use Rattle.fields.specs.Parse.{when}
use Rattle.fields.specs.Answer.{gives, refuses}
use Rattle.fields.specs.Says.{says_answer}
use Rattle.fields.specs.declared.ParseError.{ParseError}
use Rattle.archive.specs.declared.Asked.{Asked}
use Rattle.tree.specs.Active.{Record}
use Rattle.grid.specs.Grid.{Grid, grid, active_of, place_after}
use Rattle.place.specs.declared.Place.{Place}
use Rattle.walk.specs.Walk.{next_records, walked_to, needed_next, LeftBehind}
use Rattle.walk.specs.declared.Walked.{Walked}

-- What `Promise` says of a walk call with k slots, but for the slots: of its answer and of the records that it hands out.
pub record Says (s : List ℕ) (p : Place) (k : ℕ) (r : Result Walked ParseError) (rs : List Record) : Type 0 where
  pub reached :
      (asked : Asked) (name : List ℕ) (g : Grid) (m : ℕ) → gives g ≡ grid s asked name → m ≤ length (active_of s g) → p ≡ place_after s g m →
      (says_answer r ≡ gives (walked_to s g m (length (next_records s g m k)))) × (rs ≡ next_records s g m k)
  pub some-records : (w : Walked) → says_answer r ≡ gives w → (length rs ≡ w.filled) × (w.filled ≤ k)
  pub refused : (n : ℕ) → says_answer r ≡ refuses n → (n ≡ 22) × (rs ≡ [])
  pub left_behind : (w : Walked) → says_answer r ≡ gives w → LeftBehind p k w
  pub no-slots : k ≡ 0 → says_answer r ≡ gives (record { place = p; filled = 0; left = p.left })
  pub past_end : 0 < k → 0 < p.left → length s < (needed_next p).start + (needed_next p).bytes → says_answer r ≡ refuses 22

-- What is filled so far, and then the answer of one more call: a refusal is the whole call's only where nothing is filled.
abbrev pub counted : Walked → Walked → Walked
counted w v = record { place = v.place; filled = w.filled + v.filled; left = v.left }

abbrev pub together : Walked → Result Walked ParseError → Result Walked ParseError
together w (Ok v) = Ok (counted w v)
together w (Err e) = when (eqb w.filled 0) (Err e) (Ok w)
