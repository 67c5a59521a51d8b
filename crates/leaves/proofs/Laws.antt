-- Laws of a run of leaves that is being laid out, by which the functions' proofs go.
use mathlib.Core.Path.{◌≡◌, refl, sym, ap, ◌∙◌}
use mathlib.Core.List.{List, [], ◌∷◌, ◌++◌, append_assoc, append-nil, flat_map}
use Prim.Native.Nat.{ℕ, suc, ◌-◌, ◌/◌, ◌≤◌, ◌<◌}
use native.Mathlib.Omega.{arith}
use lib.ListN.{length, drop, length-append}
use lib.Seq.{drop_at}
use Rattle.std.proofs.Common.{Result}
use Rattle.std.specs.Result.{IsErrAnd}
use Rattle.std.proofs.lemmas.Result.{err_from_is_err_and}
use Rattle.fields.specs.Answer.{Answer, refuses}
use Rattle.fields.specs.Says.{number}
use Rattle.fields.specs.declared.ParseError.{ParseError}
use Rattle.tree.specs.Active.{Piece}
use Rattle.leaves.specs.Answers.{says_fill, KeptBy}
use Rattle.leaves.specs.Inner.{from_leaves}

-- A run that is being laid out: what is done, with what n of the leaves l to come give, but for the first ones, is all.
pub record Filling {A : Type 0} (f : Piece → List A) (l : List Piece) (first n : ℕ) (done all : List A) : Type 0 where
  pub enough : n ≤ length l - first
  pub so_far : done ++ from_leaves f l first n ≡ all

module _ {A : Type 0} {f : Piece → List A} {l : List Piece} {first n : ℕ} where
  pub starts : n ≤ length l - first → Filling f l first n [] (from_leaves f l first n)
  starts h = record { enough = h; so_far = refl }

  module _ {done all : List A} (h : Filling f l first n done all) where
    -- where one more is asked for, there is a leaf behind the first ones
    pub one_more : 0 < n → first < length l
    one_more m = omega (arith, h.enough)

    pub full : n ≡ 0 → done ≡ all
    unfolding flat_map
    full z = sym (append-nil done) ∙ rw z at h.so_far

    -- the first ones are passed, and a leaf is laid out
    pub filled :
        (front : List Piece) (q : Piece) (m : List Piece) → l ≡ front ++ (q ∷ m) → length front ≡ first → (k : ℕ) → n ≡ suc k → {next : List A} → next ≡ done ++ f q →
        Filling f m 0 k next all
    unfolding flat_map
    filled front q m e p k z {next} x =
        let d : drop first l ≡ q ∷ m = ap (drop first) e ∙ drop_at front (q ∷ m) first p in
        let b : from_leaves f l first n ≡ f q ++ from_leaves f m 0 k = rw (d, z) in
        record {
          enough = omega (arith, h.enough, ap length e ∙ length-append front (q ∷ m));
          so_far = rw (x, append_assoc, ← b) h.so_far;
        }

-- where nothing is lent, nothing is asked for
pub no-slots : (f : Piece → List ℕ) (l : List Piece) (first : ℕ) (slots : List ℕ) → length slots ≡ 0 → slots ≡ from_leaves f l first (length slots / 512)
unfolding flat_map
no-slots f l first [] e = refl
no-slots f l first (x ∷ slots) e = absurd (omega arith)

-- the refusal e that a `?` hands on, while the slots are as they were
pub handed-on-fill :
    {A : Type 0} (r : Result Unit ParseError) (e : ParseError) (slots : A) {x : Answer A} → IsErrAnd r (λ d. d ≡ e) → refuses (number e) ≡ x → (says_fill r slots ≡ x) × KeptBy r slots slots
handed-on-fill r e slots h k =
    let p = err_from_is_err_and r h in
    rw p.1 (ap (λ d. refuses (number d)) p.2 ∙ k, refl)
