-- Laws of the definitions, by which the functions' proofs go.
use mathlib.Core.Path.{◌≡◌, refl, sym, ap, ◌∙◌}
use mathlib.Core.Bool.{true, false, true≢false}
use mathlib.Core.List.{List, [], ◌∷◌}
use Prim.Native.Nat.{ℕ}
use native.Mathlib.Omega.{arith}
use Rattle.std.proofs.Common.{Result, Ok, Err}
use Rattle.fields.specs.Answer.{refuses}
use Rattle.fields.specs.Says.{number, says_answer}
use Rattle.fields.specs.declared.ParseError.{ParseError}
use Rattle.fields.specs.declared.ParseError.TheVariants.{ForeignPlace}
use Rattle.grid.specs.declared.OpenedGrid.{OpenedGrid}
use Rattle.place.specs.declared.Place.{Place}
use Rattle.slots.specs.Slots.{Slots}
use Rattle.walk.specs.Walk.{Promise}
use Rattle.walk.specs.declared.Walked.{Walked}
use Rattle.words.specs.Words.{has_layout, StandFor, place_by, words_of}
use Rattle.outward.specs.Outward.{opened_words}
use Rattle.outward.proofs.Laid.{laid_as}
use Rattle.grid_calls.specs.Calls.{open_words, walk_words, OpenCall, WalkCall}

-- a walk call with words of another layout
pub walk-foreign : {s : List ℕ} (words counts : List ℕ) {before : Slots} {k : ℕ} → has_layout words ≡ false → k ≡ 22 → WalkCall s words counts before k words counts before
walk-foreign words counts x n = record {
  answer = Err ForeignPlace;
  walked = λ p y. absurd (true≢false (sym y.0 ∙ x));
  foreign = λ y. (refl, refl);
  left = laid_as walk_words _ (Err ForeignPlace) refl (n, refl);
  stands = λ w y. let z : ◌≡◌ {A = ℕ} 0 1 = cc in absurd (omega arith);
}

-- a walk call from the place p of words of this layout, by its answer a
module _
    {s : List ℕ} (words counts : List ℕ) {before after : Slots} {p : Place} {a : Result Walked ParseError} (l : has_layout words ≡ true) (e : p ≡ place_by words)
    (h : Promise s p before a after)
  where
    kept : (q : Place) → StandFor words q → Promise s q before a after
    kept q y = rw (← e ∙ y.1) h

    ours : has_layout words ≡ false → (says_answer a ≡ refuses 22) × (after ≡ before)
    ours y = absurd (true≢false (sym l ∙ y))

    pub walk_refused : {d : ParseError} {k : ℕ} → a ≡ Err d → k ≡ number d → WalkCall s words counts before k words counts after
    walk_refused {d} x n = record {
      answer = a;
      walked = kept;
      foreign = ours;
      left = laid_as walk_words _ (Err d) (sym (ap says_answer x)) (n, refl);
      stands = λ w y. let z : ◌≡◌ {A = ℕ} 0 1 = cc (ap says_answer x) in absurd (omega arith);
    }

    pub walk-gave :
        {w : Walked} {words' : List ℕ} → a ≡ Ok w → (words' ≡ words_of w.place) × StandFor words' w.place →
        WalkCall s words counts before 0 words' (w.filled ∷ w.left ∷ []) after
    walk-gave {w} x y = record {
      answer = a;
      walked = kept;
      foreign = ours;
      left = laid_as walk_words _ (Ok w) (sym (ap says_answer x)) (refl, ap (λ (l : List ℕ). (l, w.filled ∷ w.left ∷ [])) y.0);
      stands = λ v z. let u : w ≡ v = cc (ap says_answer x) in (y.1.0, y.1.1 ∙ ap (λ (w : Walked). w.place) u);
    }

-- a call that opens a grid, by its answer a
module _ {s : List ℕ} (out place : List ℕ) {a : Result OpenedGrid ParseError} where
  pub open-refused : {d : ParseError} {k : ℕ} → a ≡ Err d → k ≡ number d → OpenCall s (says_answer a) out place k out place
  open-refused {d} x n = record {
    left = laid_as (open_words s) _ (Err d) (sym (ap says_answer x)) (n, refl);
    stands = λ g y. let z : ◌≡◌ {A = ℕ} 0 1 = cc (ap says_answer x) in absurd (omega arith);
  }

  pub open-gave :
      {g : OpenedGrid} {out' place' : List ℕ} → a ≡ Ok g → out' ≡ opened_words s g → (place' ≡ words_of g.place) × StandFor place' g.place →
      OpenCall s (says_answer a) out place 0 out' place'
  open-gave {g} x y z = record {
    left = laid_as (open_words s) _ (Ok g) (sym (ap says_answer x)) (refl, λ i. (y i, z.0 i));
    stands = λ v w. let u : g ≡ v = cc (ap says_answer x) in (z.1.0, z.1.1 ∙ ap (λ (g : OpenedGrid). g.place) u);
  }
