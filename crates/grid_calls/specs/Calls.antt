-- What a call from another language leaves that opens a grid, and a walk call: the number that it returns, and the words in the lent arrays.
use Rattle.std.specs.Prelude.{ℕ, ◌≡◌, List, [], ◌∷◌, false, Result}
use Rattle.fields.specs.Answer.{Answer, gives, refuses}
use Rattle.fields.specs.Says.{says_answer}
use Rattle.fields.specs.declared.ParseError.{ParseError}
use Rattle.grid.specs.declared.OpenedGrid.{OpenedGrid}
use Rattle.slots.specs.Slots.{Slots}
use Rattle.walk.specs.Walk.{Promise}
use Rattle.place.specs.declared.Place.{Place}
use Rattle.walk.specs.declared.Walked.{Walked}
use Rattle.words.specs.Words.{has_layout, StandFor, words_of}
use Rattle.outward.specs.Outward.{laid, opened_words}

-- section 7: the words of an opened grid, and of its fresh place
abbrev pub open_words : List ℕ → OpenedGrid → List ℕ × List ℕ
open_words s g = (opened_words s g, words_of g.place)

-- Section 7: a call over the bytes s that opens a grid, which answers m, with the two lent arrays before it, the number returned, and both after it.
pub record OpenCall (s : List ℕ) (m : Answer OpenedGrid) (out place : List ℕ) (r : ℕ) (out' place' : List ℕ) : Type 0 where
  pub left : (r, (out', place')) ≡ laid m (open_words s) (out, place)
  -- the words of the fresh place stand for it
  pub stands : (g : OpenedGrid) → m ≡ gives g → StandFor place' g.place

-- section 7: the next place's words, and the number filled and the number left
abbrev pub walk_words : Walked → List ℕ × List ℕ
walk_words w = (words_of w.place, w.filled ∷ w.left ∷ [])

-- Section 7: a walk call over the bytes s, with the words of a place, the counts and the slots before it, the number returned, and all three after it.
pub record WalkCall (s words counts : List ℕ) (before : Slots) (r : ℕ) (words' counts' : List ℕ) (after : Slots) : Type 0 where
  -- there is an answer that keeps what a walk promises from the place that these words stand for; words of another layout stand for none,
  pub answer : Result Walked ParseError
  pub walked : (p : Place) → StandFor words p → Promise s p before answer after
  pub foreign : has_layout words ≡ false → (says_answer answer ≡ refuses 22) × (after ≡ before)
  -- the words that are left are its own, and stand for the place that it hands back
  pub left : (r, (words', counts')) ≡ laid (says_answer answer) walk_words (words, counts)
  pub stands : (w : Walked) → says_answer answer ≡ gives w → StandFor words' w.place
