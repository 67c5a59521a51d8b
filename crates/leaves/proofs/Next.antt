-- The next leaf behind so many leaves: where a pass over pieces stops that may take any number of records.
use mathlib.Core.Path.{◌≡◌, refl, sym, ap, ◌∙◌}
use mathlib.Core.List.{List, [], ◌∷◌, ◌++◌, append_assoc}
use mathlib.Core.Bool.{Bool, true, false, ◌&&◌}
use Rattle.std.proofs.Common.{Option}
use Prim.Native.Nat.{ℕ, suc, ◌+◌, ◌-◌, ◌≤◌, ◌<◌}
use native.Mathlib.Omega.{arith}
use lib.Dec.{eqb, leb}
use lib.ListN.{length, drop, length-append}
use lib.Seq.{drop_at}
use borrow.Author.Tests.{eqb-true, leb-true, eq-eqb, ne_eqb}
use Rattle.fields.specs.Parse.{when}
use Rattle.coordinates.proofs.Axis.{and_both}
use Rattle.half.specs.Inner.{IsWidth}
use Rattle.runs.specs.Inner.{Held}
use Rattle.forms.specs.declared.Coding.{Coding}
use Rattle.tree.specs.Active.{Piece}
use Rattle.tree.specs.Inner.{record_count, leaf_count}
use Rattle.tree.proofs.Counting.{total, total-append}
use Rattle.cursor.specs.Inner.{Rest, Stop, stop, to_come, HeldPiece}
use Rattle.cursor.specs.declared.Cursor.{Cursor}
use Rattle.skip.specs.Inner.{before, ended, refused, skipping, skip_from}
use Rattle.skip.proofs.Laws.{records_in, leaves_in, skip-stops}
use Rattle.leaves.specs.Inner.{leaves_among, leaves_from}

-- as many records as a pass may take
abbrev pub most : ℕ
most = 18446744073709551615

among-append : (x y : List Stop) → leaves_among (x ++ y) ≡ leaves_among x ++ leaves_among y
unfolding leaves_among when
among-append [] y = refl
among-append (t ∷ x) y = go (eqb t.piece.level 0) (among-append x y)
  where
    go : (b : Bool) → leaves_among (x ++ y) ≡ leaves_among x ++ leaves_among y →
        when b (t.piece ∷ leaves_among (x ++ y)) (leaves_among (x ++ y)) ≡ when b (t.piece ∷ leaves_among x) (leaves_among x) ++ leaves_among y
    go true e = ap (λ (l : List Piece). t.piece ∷ l) e
    go false e = e

among-count : (ts : List Stop) → length (leaves_among ts) ≡ leaves_in ts
unfolding leaves_among total when
among-count [] = refl
among-count (t ∷ ts) = go (eqb t.piece.level 0) (among-count ts)
  where
    go : (b : Bool) → length (leaves_among ts) ≡ leaves_in ts → length (when b (t.piece ∷ leaves_among ts) (leaves_among ts)) ≡ when b 1 0 + leaves_in ts
    go true e = omega (arith, e)
    go false e = omega (arith, e)

-- a piece that is a leaf
leaf-is : (t : Stop) → 0 < leaf_count t.piece → eqb t.piece.level 0 ≡ true
unfolding when
leaf-is t h = go (eqb t.piece.level 0) h
  where
    go : (b : Bool) → 0 < when b 1 0 → b ≡ true
    go true h = refl
    go false h = absurd (omega arith)

leaf-most : (q : Piece) → leaf_count q ≤ 1
unfolding when
leaf-most q = go (eqb q.level 0)
  where
    go : (b : Bool) → when b 1 0 ≤ 1
    go true = omega arith
    go false = omega arith

pub held-leaf : {s : List ℕ} {c : Coding} {q : Piece} → HeldPiece s c q → q.level ≡ 0 → Held s c 64 q.value q.value q.values
held-leaf h z = rw (h.leaf z) at (rw z at h.held)

-- Behind k leaves comes the one at t.
pub record NextLeaf (s : List ℕ) (c : Coding) (k : ℕ) (x : Cursor) (t : Stop) : Type 0 where
  pub front : List Piece
  pub split : leaves_from s c x ≡ front ++ (t.piece ∷ leaves_from s c t.behind)
  pub passed : length front ≡ k
  pub held : Held s c 64 t.piece.value t.piece.value t.piece.values
  pub few : records_in s (to_come s c t.behind).items ≤ most
  pub fewer : length (to_come s c t.behind).items < length (to_come s c x).items

module _ (s : List ℕ) (c : Coding) (wide : IsWidth c.width) (x : Cursor) (few : records_in s (to_come s c x).items ≤ most) (k : ℕ) where
  pub next-leaf : {t : Stop} {n' k' : ℕ} → before t n' k' ≡ skip_from s c most k x → NextLeaf s c k x t
  unfolding leaves_among total when
  next-leaf {t} {n'} {k'} e =
      let h = skip-stops s c wide t n' k' x most k e in
      let rest = (to_come s c t.behind).items in
      let n : records_in s (to_come s c x).items ≡ records_in s h.passed + (record_count s t.piece + records_in s rest)
      = ap (records_in s) h.items ∙ total-append _ h.passed (t ∷ rest) in
      let one : k' < leaf_count t.piece = stopped k' (leaf_count t.piece) (h.misfit (omega (arith, n, few, h.records))) in
      let level = leaf-is t (omega (arith, one)) in
      let z : t.piece.level ≡ 0 = eqb-true _ 0 level in
      let m : leaves_among (t ∷ rest) ≡ t.piece ∷ leaves_among rest = rw level in
      record {
        front = leaves_among h.passed;
        split = ap leaves_among h.items ∙ among-append h.passed (t ∷ rest) ∙ ap (λ (l : List Piece). leaves_among h.passed ++ l) m;
        passed = among-count h.passed ∙ omega (arith, h.leaves, one, leaf-most t.piece);
        held = held-leaf h.held z;
        few = omega (arith, n, few);
        fewer = omega (arith, ap length h.items ∙ length-append h.passed (t ∷ rest));
      }
    where
      stopped : (a b : ℕ) → (b ≤ a → ⊥) → a < b
      stopped a b f = omega (arith, f)

  -- where there are more leaves, it is neither the end nor a refusal
  more : (ts : List Stop) (r : Option ℕ) (n k : ℕ) → records_in s ts ≤ n → k < leaves_in ts → (t : Stop) × (n' : ℕ) × (k' : ℕ) × (before t n' k' ≡ skipping s n k ts r)
  unfolding skipping total when
  more [] r n k l m = absurd (omega arith)
  more (t ∷ ts) r n k l m = go (more ts r (n - record_count s t.piece) (k - leaf_count t.piece)) (leb (record_count s t.piece) n && leb (leaf_count t.piece) k) refl
    where
      go : (records_in s ts ≤ n - record_count s t.piece → k - leaf_count t.piece < leaves_in ts →
          (u : Stop) × (n' : ℕ) × (k' : ℕ) × (before u n' k' ≡ skipping s (n - record_count s t.piece) (k - leaf_count t.piece) ts r)) →
          (b : Bool) → (leb (record_count s t.piece) n && leb (leaf_count t.piece) k) ≡ b →
          (u : Stop) × (n' : ℕ) × (k' : ℕ) × (before u n' k' ≡ when b (skipping s (n - record_count s t.piece) (k - leaf_count t.piece) ts r) (before t n k))
      go later true e =
          let f = and_both _ _ e in
          let a : record_count s t.piece ≤ n = leb-true _ _ f.0 in
          let b : leaf_count t.piece ≤ k = leb-true _ _ f.1 in
          later (omega (arith, l, a)) (omega (arith, m, b))
      go later false e = (t, n, k, refl)

  module _ (enough : k < length (leaves_from s c x)) where
    found : (t : Stop) × (n' : ℕ) × (k' : ℕ) × (before t n' k' ≡ skip_from s c most k x)
    found = more (to_come s c x).items (to_come s c x).refusal most k few (omega (arith, enough, among-count (to_come s c x).items))

    pub no_end : {a b : ℕ} → ended a b ≡ skip_from s c most k x → ⊥
    no_end e = let f = found.3 in let z : ◌≡◌ {A = ℕ} 0 1 = cc in omega arith

    pub no-refusal : {j : ℕ} → refused j ≡ skip_from s c most k x → ⊥
    no-refusal e = let f = found.3 in let z : ◌≡◌ {A = ℕ} 0 1 = cc in omega arith

-- Behind it come the leaves but for the first ones and itself.
pub leaves-behind : (s : List ℕ) (c : Coding) (k : ℕ) (x : Cursor) {t : Stop} → NextLeaf s c k x t → leaves_from s c t.behind ≡ drop (suc k) (leaves_from s c x)
leaves-behind s c k x {t} n =
    let past = n.front ++ (t.piece ∷ []) in
    let many : length past ≡ suc k = omega (arith, length-append n.front (t.piece ∷ []), n.passed) in
    sym (ap (drop (suc k)) (n.split ∙ sym (append_assoc n.front (t.piece ∷ []) (leaves_from s c t.behind))) ∙ drop_at past (leaves_from s c t.behind) (suc k) many)

-- The next piece: a leaf, or another.
module _ (s : List ℕ) (c : Coding) (x : Cursor) {y : Cursor} {q : Piece} (e : stop q y (to_come s c y) ≡ to_come s c x) where
  items : (to_come s c x).items ≡ record { piece = q; behind = y } ∷ (to_come s c y).items
  items = ap (λ (r : Rest Stop). r.items) (sym e)

  pub one_fewer : length (to_come s c y).items < length (to_come s c x).items
  one_fewer = omega (arith, ap length items)

  pub leaf-next : q.level ≡ 0 → leaves_from s c x ≡ q ∷ leaves_from s c y
  unfolding leaves_among when
  leaf-next z = ap leaves_among items ∙ rw (eq-eqb _ 0 z)

  pub none-next : (q.level ≡ 0 → ⊥) → leaves_from s c x ≡ leaves_from s c y
  unfolding leaves_among when
  none-next z = ap leaves_among items ∙ rw (ne_eqb _ 0 z)

-- or none
pub no-piece : (s : List ℕ) (c : Coding) (x : Cursor) {r : Rest Stop} → r ≡ to_come s c x → r.items ≡ [] → length (leaves_from s c x) ≡ 0
unfolding leaves_among
no-piece s c x e z = ap length (ap leaves_among (ap (λ (r : Rest Stop). r.items) (sym e) ∙ z))
