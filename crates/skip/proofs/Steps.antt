-- The next piece: there is none, it is refused, it is passed, or it does not fit.
use mathlib.Core.Path.{◌≡◌, refl, ap, ◌∙◌}
use mathlib.Core.List.{List, []}
use mathlib.Core.Bool.{Bool, true, false, ◌&&◌, true≢false}
use Prim.Native.Nat.{ℕ, zero, suc, ◌-◌, ◌≤◌, ◌<◌}
use native.Mathlib.Omega.{arith}
use borrow.Author.Tests.{le-leb, lt-leb}
use mir.Val.{bool_byte}
use Rattle.std.proofs.Common.{Option, None, Some, Result}
use Rattle.std.specs.Option.{is_some}
use Rattle.std.specs.Result.{IsErrAnd}
use Rattle.std.proofs.lemmas.Result.{err_from_is_err_and}
use Rattle.fields.specs.Parse.{when}
use Rattle.fields.specs.Says.{number}
use Rattle.fields.specs.declared.ParseError.{ParseError}
use Rattle.coordinates.specs.Coordinates.{places}
use Rattle.masks.specs.Masks.{ones_from, count_below}
use Rattle.half.specs.Inner.{IsWidth}
use Rattle.forms.specs.declared.Coding.{Coding}
use Rattle.tree.specs.Active.{Piece, edge_of}
use Rattle.tree.specs.Inner.{record_count, leaf_count}
use Rattle.cursor.specs.Inner.{only, refused_by, stop, to_come, HeldPiece}
use Rattle.cursor.specs.declared.Cursor.{Cursor}
use Rattle.cursor.proofs.Step.{follows, fewer}
use Rattle.skip.specs.Inner.{Skip, before, ended, refused, skipping, skip_of, says_skip, left, RanTo}
use Rattle.skip.specs.declared.Run.{Run}
use Rattle.skip.specs.declared.Skipped.{Skipped}

-- a level past the three has no places
pub no-places : (f : ℕ → Bool) (l : ℕ) → 2 < l → 0 ≡ count_below f (places (edge_of l))
unfolding ones_from
no-places f zero h = absurd (omega arith)
no-places f (suc zero) h = absurd (omega arith)
no-places f (suc (suc zero)) h = absurd (omega arith)
no-places f (suc (suc (suc n))) h = refl

-- a run that has not moved, one from a cursor that hands out the same, and one run after another
pub ran-none : (s : List ℕ) (c : Coding) (t : Run) → RanTo s c t t
ran-none s c t = record { same = refl; no_more = omega arith }

pub same_ahead :
    {s : List ℕ} {c : Coding} (t : Run) (y : Cursor) → to_come s c y ≡ to_come s c t.cursor → RanTo s c t (record { cursor = y; records = t.records; leaves = t.leaves })
same_ahead t y e = record { same = rw e; no_more = rw e (omega arith) }

pub ran_on : {s : List ℕ} {c : Coding} {t u v : Run} → RanTo s c t u → RanTo s c u v → RanTo s c t v
ran_on a b = record { same = b.same ∙ a.same; no_more = omega (arith, a.no_more, b.no_more) }

-- the refusal e that a `?` hands on
pub handed-skip : (r : Result Skipped ParseError) (e : ParseError) {x : Skip} → IsErrAnd r (λ d. d ≡ e) → refused (number e) ≡ x → says_skip r ≡ x
handed-skip r e h k = let p = err_from_is_err_and r h in ap says_skip p.1 ∙ ap (λ d. refused (number d)) p.2 ∙ k

-- what tells that there is none
pub none-there : {A : Type 0} (o : Option A) → is_some o ≡ false → None ≡ o
none-there None e = refl
none-there (Some a) e = absurd (true≢false e)

-- whether a piece is a leaf, as a number
pub leaf-is : (b : Bool) → bool_byte b ≡ when b 1 0
unfolding when
leaf-is true = refl
leaf-is false = refl

-- both tests have to hold
and-false : (a b : Bool) → b ≡ false → a && b ≡ false
and-false true b e = e
and-false false b e = refl

module _ (s : List ℕ) (c : Coding) (t : Run) where
  pub at-end : only [] ≡ to_come s c t.cursor → ended t.records t.leaves ≡ skip_of s c t
  unfolding skipping
  at-end e = rw (← e)

  pub at-refusal : {j : ℕ} → refused_by j ≡ to_come s c t.cursor → refused j ≡ skip_of s c t
  unfolding skipping
  at-refusal e = rw (← e)

  module _ {q : Piece} {y : Cursor} (e : stop q y (to_come s c y) ≡ to_come s c t.cursor) where
    pub held-there : IsWidth c.width → HeldPiece s c q
    held-there wide = (follows s c wide t.cursor e).0

    abbrev onward : ℕ → ℕ → Run
    onward n k = record { cursor = y; records = t.records - n; leaves = t.leaves - k }

    pub piece-passed :
        {n k : ℕ} → n ≡ record_count s q → k ≡ leaf_count q → n ≤ t.records → k ≤ t.leaves →
        (skip_of s c (onward n k) ≡ skip_of s c t) × (left s c (onward n k) < left s c t)
    unfolding skipping when
    piece-passed {n} {k} d f l m = (rw (← e, ← d, ← f, le-leb n t.records l, le-leb k t.leaves m), fewer e)

    abbrev unmoved : Skip
    unmoved = before (record { piece = q; behind = y }) t.records t.leaves

    pub records-missing : {n : ℕ} → n ≡ record_count s q → t.records < n → unmoved ≡ skip_of s c t
    unfolding skipping when
    records-missing {n} d l = rw (← e, ← d, lt-leb n t.records l)

    pub leaf-missing : {k : ℕ} → k ≡ leaf_count q → t.leaves < k → unmoved ≡ skip_of s c t
    unfolding skipping when
    leaf-missing {k} d l = rw (← e, ← d, lt-leb k t.leaves l, and-false)
