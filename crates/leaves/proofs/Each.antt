-- A run of leaves is the single leaves, one after the other.
use mathlib.Core.Path.{◌≡◌, refl, sym, ap, ◌∙◌}
use mathlib.Core.List.{List, [], ◌∷◌, flat_map}
use mathlib.Core.Bool.{Bool, true, false, ◌&&◌}
use Rattle.std.proofs.Common.{Some, slice_get}
use Prim.Native.Nat.{ℕ, zero, suc, ◌+◌, ◌-◌, ◌*◌, ◌/◌, ◌%◌, ◌≤◌, ◌<◌}
use native.Mathlib.Omega.{arith}
use lib.Dec.{eqb, leb}
use lib.ListN.{length, take, drop, length-drop}
use lib.Seq.{take_at, drop_at, drop-drop}
use borrow.Author.Tests.{leb-true}
use Rattle.fields.specs.Parse.{when}
use Rattle.fields.specs.Answer.{gives, refuses}
use Rattle.archive.specs.declared.Asked.{Asked}
use Rattle.fields.proofs.Answers.{with-back, with-gives, gives_same}
use Rattle.values.specs.Values.{leaf_values, values_from}
use Rattle.forms.specs.declared.Coding.{Coding}
use Rattle.runs.specs.declared.Values.{Values}
use Rattle.nodes.specs.declared.Block.{Block}
use Rattle.tree.specs.Active.{all_blocks}
use Rattle.coordinates.proofs.Axis.{and_both}
use Rattle.grid.specs.Grid.{grid}
use Rattle.leaves.specs.Leaves.{present_leaf, fill_leaf, fill_leaves}

-- a leaf has 512 values
values_length : (s : List ℕ) (c : Coding) (child value : ℕ) (v : Values) (p k : ℕ) → length (values_from s c child value v p k) ≡ k
unfolding values_from
values_length s c child value v p zero = refl
values_length s c child value v p (suc k) = ap suc (values_length s c child value v (suc p) k)

-- the leaf with the number i behind the first ones
from_first : (bs : List Block) (first i : ℕ) → slice_get bs (first + i) ≡ slice_get (drop first bs) i
from_first bs zero i = let e : 0 + i ≡ i = omega arith in rw e
from_first [] (suc k) i = refl
from_first (b ∷ bs) (suc k) i = let e : suc k + i ≡ suc (k + i) = omega arith in rw e (from_first bs k i)

module _ (s : List ℕ) (c : Coding) where
  abbrev values : Block → List ℕ
  values b = leaf_values s c b.mask b.values

  one_of :
      (l : List Block) (i n : ℕ) → i < n → n ≤ length l → (b : Block) × (Some b ≡ slice_get l i) × (take 512 (drop (512 * i) (flat_map values (take n l))) ≡ values b)
  unfolding flat_map
  one_of [] i n h k = absurd (omega arith)
  one_of (b ∷ l) zero zero h k = absurd (omega arith)
  one_of (b ∷ l) zero (suc n) h k = (b, refl, take_at (values b) _ 512 (values_length s c _ _ _ 0 512))
  one_of (b ∷ l) (suc i) zero h k = absurd (omega arith)
  one_of (b ∷ l) (suc i) (suc n) h k =
      let rest = one_of l i n (omega arith) (omega arith) in
      let e : 512 * suc i ≡ 512 + 512 * i = omega arith in
      let d = drop_at (values b) (flat_map values (take n l)) 512 (values_length s c _ _ _ 0 512) in
      (rest.0, rest.1, rw (e, ← drop-drop) (ap (λ (x : List ℕ). take 512 (drop (512 * i) x)) d ∙ rest.2))

-- Section 6: each 512 slots of a run hold what the single fill of that leaf gives.
pub each-leaf :
    (s : List ℕ) (asked : Asked) (name : List ℕ) (first slots i : ℕ) (v : List ℕ) → gives v ≡ fill_leaves s asked name first slots → i < slots / 512 →
    gives (take 512 (drop (512 * i) v)) ≡ fill_leaf s asked name (first + i) 512
unfolding fill_leaves fill_leaf present_leaf when
each-leaf s asked name first slots i v e h =
    let a = with-back (grid s asked name) _ e in
    let bs = all_blocks a.0.filled in
    let t = there (eqb (slots % 512) 0 && leb (slots / 512) (length bs - first)) a.2 in
    let enough : slots / 512 ≤ length (drop first bs) = rw length-drop (leb-true _ _ (and_both (eqb (slots % 512) 0) _ t.0).1) in
    let b = one_of s a.0.coding (drop first bs) i (slots / 512) h enough in
    with-gives _ a.1 (with-gives _ (ap present_leaf (b.1 ∙ sym (from_first bs first i))) (ap (λ (v : List ℕ). gives (take 512 (drop (512 * i) v))) t.1 ∙ ap gives b.2))
  where
    there : (t : Bool) {x : List ℕ} → gives v ≡ when t (gives x) (refuses 21) → (t ≡ true) × (v ≡ x)
    there true e = (refl, gives_same e)
    there false e = let z : ◌≡◌ {A = ℕ} 0 1 = cc in absurd (omega arith)
