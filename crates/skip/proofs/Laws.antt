-- What comes of passing pieces: which are passed before one that does not fit, and when all are.
use mathlib.Core.Path.{◌≡◌, refl, sym, ap, ◌∙◌}
use mathlib.Core.List.{List, [], ◌∷◌, ◌++◌}
use mathlib.Core.Bool.{Bool, true, false, ◌&&◌}
use Prim.Native.Nat.{ℕ, ◌+◌, ◌-◌, ◌≤◌}
use native.Mathlib.Numerals.{unary_clauses}
use native.Mathlib.Omega.{arith}
use borrow.Author.Tests.{le-leb, leb-true}
use lib.Dec.{leb}
use Rattle.std.proofs.Common.{Option, None, Some}
use Rattle.fields.specs.Parse.{when}
use Rattle.coordinates.proofs.Axis.{and_both}
use Rattle.half.specs.Inner.{IsWidth}
use Rattle.forms.specs.declared.Coding.{Coding}
use Rattle.tree.specs.Inner.{record_count, leaf_count}
use Rattle.tree.proofs.Counting.{total}
use Rattle.cursor.specs.Inner.{Rest, Stop, to_come, HeldPiece}
use Rattle.cursor.specs.declared.Cursor.{Cursor}
use Rattle.cursor.proofs.Step.{follows}
use Rattle.skip.specs.Inner.{Skip, before, ended, refused, skipping, skip_from}

-- how many records and leaves pieces are together
abbrev pub records_in : List ℕ → List Stop → ℕ
records_in s ts = total (λ t. record_count s t.piece) ts

abbrev pub leaves_in : List Stop → ℕ
leaves_in ts = total (λ t. leaf_count t.piece) ts

-- From x, with n records and k leaves to be passed, all before the piece at t is passed, and n' records and k' leaves still are to be: this piece
-- does not fit.
pub record Stops (s : List ℕ) (c : Coding) (n k : ℕ) (x : Cursor) (t : Stop) (n' k' : ℕ) : Type 0 where
  pub passed : List Stop
  pub items : (to_come s c x).items ≡ passed ++ (t ∷ (to_come s c t.behind).items)
  pub refusal : (to_come s c x).refusal ≡ (to_come s c t.behind).refusal
  pub held : HeldPiece s c t.piece
  pub records : n ≡ n' + records_in s passed
  pub leaves : k ≡ k' + leaves_in passed
  pub misfit : record_count s t.piece ≤ n' → leaf_count t.piece ≤ k' → ⊥

module _ (s : List ℕ) where
  abbrev fits : ℕ → ℕ → Stop → Bool
  fits n k t = leb (record_count s t.piece) n && leb (leaf_count t.piece) k

  misfits : (n k : ℕ) (t : Stop) → false ≡ fits n k t → record_count s t.piece ≤ n → leaf_count t.piece ≤ k → ⊥
  misfits n k t f l m =
      let e : ◌≡◌ {A = Bool} false true = f ∙ rw (le-leb (record_count s t.piece) n l, le-leb (leaf_count t.piece) k m) in
      let z : ◌≡◌ {A = ℕ} 0 1 = cc in
      omega arith

  module _ (c : Coding) (wide : IsWidth c.width) (t : Stop) (n' k' : ℕ) where
    none-there : (n k : ℕ) (r : Option ℕ) → before t n' k' ≡ skipping s n k [] r → ⊥
    unfolding skipping
    none-there n k None e = let z : ◌≡◌ {A = ℕ} 0 1 = cc in omega arith
    none-there n k (Some j) e = let z : ◌≡◌ {A = ℕ} 0 1 = cc in omega arith

    -- one piece and then the others: behind it these come, whether it is passed or not
    module _ (x : Cursor) (n k : ℕ) {u : Stop} {us : List Stop} (e : (to_come s c x).items ≡ u ∷ us) where
      next : HeldPiece s c u.piece × (◌≡◌ {A = Rest Stop} (record { items = us; refusal = (to_come s c x).refusal }) (to_come s c u.behind))
      next = follows s c wide x (λ i. record { items = sym e i; refusal = (to_come s c x).refusal })

      items-behind : us ≡ (to_come s c u.behind).items
      items-behind = ap (λ (r : Rest Stop). r.items) next.1

      refusal-behind : (to_come s c x).refusal ≡ (to_come s c u.behind).refusal
      refusal-behind = ap (λ (r : Rest Stop). r.refusal) next.1

      stops-here : false ≡ fits n k u → before t n' k' ≡ before u n k → Stops s c n k x t n' k'
      unfolding total
      stops-here f d =
          let at : t ≡ u = cc in
          let n-same : n' ≡ n = cc in
          let k-same : k' ≡ k = cc in
          rw (at, n-same, k-same) (record {
            passed = [];
            items = e ∙ ap (λ (l : List Stop). u ∷ l) items-behind;
            refusal = refusal-behind;
            held = next.0;
            records = omega arith;
            leaves = omega arith;
            misfit = misfits n k u f;
          })

      stops-later : true ≡ fits n k u → Stops s c (n - record_count s u.piece) (k - leaf_count u.piece) u.behind t n' k' → Stops s c n k x t n' k'
      unfolding total
      stops-later f r =
          let both = and_both _ _ (sym f) in
          let l : record_count s u.piece ≤ n = leb-true _ _ both.0 in
          let m : leaf_count u.piece ≤ k = leb-true _ _ both.1 in
          record {
            passed = u ∷ r.passed;
            items = e ∙ ap (λ (l : List Stop). u ∷ l) (items-behind ∙ r.items);
            refusal = refusal-behind ∙ r.refusal;
            held = r.held;
            records = omega (arith, l, r.records);
            leaves = omega (arith, m, r.leaves);
            misfit = r.misfit;
          }

      abbrev onward : Skip
      onward = skipping s (n - record_count s u.piece) (k - leaf_count u.piece) us (to_come s c x).refusal

      stops_so : (b : Bool) → b ≡ fits n k u → before t n' k' ≡ when b onward (before u n k) →
          (before t n' k' ≡ onward → Stops s c (n - record_count s u.piece) (k - leaf_count u.piece) u.behind t n' k') → Stops s c n k x t n' k'
      unfolding when
      stops_so true f d later = stops-later f (later d)
      stops_so false f d later = stops-here f d

    stops-in : (ts : List Stop) (x : Cursor) (n k : ℕ) → (to_come s c x).items ≡ ts → before t n' k' ≡ skipping s n k ts (to_come s c x).refusal → Stops s c n k x t n' k'
    unfolding skipping
    stops-in [] x n k e d = absurd (none-there n k (to_come s c x).refusal d)
    stops-in (u ∷ us) x n k e d =
        stops_so x n k e (fits n k u) refl d λ d. stops-in us u.behind _ _ (sym (items-behind x n k e)) (d ∙ ap (skipping s _ _ us) (refusal-behind x n k e))

    pub skip-stops : (x : Cursor) (n k : ℕ) → before t n' k' ≡ skip_from s c n k x → Stops s c n k x t n' k'
    skip-stops x n k d = stops-in (to_come s c x).items x n k refl d

  -- where all fit, all are passed, and then comes the end or a refusal
  all_fit : (t : Stop) (ts : List Stop) (n k : ℕ) (r : Option ℕ) → records_in s (t ∷ ts) ≤ n → leaves_in (t ∷ ts) ≤ k →
      skipping s n k (t ∷ ts) r ≡ skipping s (n - record_count s t.piece) (k - leaf_count t.piece) ts r
  unfolding skipping when total
  all_fit t ts n k r l m = rw (le-leb (record_count s t.piece) n (omega arith), le-leb (leaf_count t.piece) k (omega arith))

  pub skip-refused : (ts : List Stop) (n k j : ℕ) → records_in s ts ≤ n → leaves_in ts ≤ k → skipping s n k ts (Some j) ≡ refused j
  unfolding skipping total
  skip-refused [] n k j l m = refl
  skip-refused (t ∷ ts) n k j l m = all_fit t ts n k (Some j) l m ∙ skip-refused ts _ _ j (omega arith) (omega arith)

  pub skip-ended : (ts : List Stop) (n k : ℕ) → records_in s ts ≤ n → leaves_in ts ≤ k → skipping s n k ts None ≡ ended (n - records_in s ts) (k - leaves_in ts)
  unfolding skipping total
  skip-ended [] n k l m = simp unary_clauses
  skip-ended (t ∷ ts) n k l m =
      all_fit t ts n k None l m ∙ skip-ended ts _ _ (omega arith) (omega arith)
      ∙ (λ i. ended (behind n (record_count s t.piece) (records_in s ts) i) (behind k (leaf_count t.piece) (leaves_in ts) i))
    where
      behind : (m a b : ℕ) → m - a - b ≡ m - (a + b)
      behind m a b = omega arith
