-- What a fill reads: two files that are the same there give the same values.
use mathlib.Core.Path.{◌≡◌, ap, ◌∙◌}
use mathlib.Core.List.{List, [], ◌∷◌}
use Prim.Native.Nat.{ℕ, zero, suc}
use native.Mathlib.Omega.{arith}
use lib.Dec.{eqb}
use Rattle.std.proofs.Common.{slice_get}
use Rattle.fields.specs.Parse.{when}
use Rattle.fields.proofs.Agree.{Each}
use Rattle.fields.specs.Answer.{gives, refuses}
use Rattle.archive.specs.declared.Asked.{Asked}
use Rattle.fields.proofs.Answers.{with-gives, with-back, gives_same}
use Rattle.values.proofs.Agree.{values_same}
use Rattle.nodes.specs.declared.Block.{Block}
use Rattle.nodes.proofs.Agree.{SameBlock}
use Rattle.tree.specs.Active.{all_blocks}
use Rattle.tree.proofs.Agree.{blocks-same}
use Rattle.grid.specs.Grid.{grid}
use Rattle.grid.proofs.Agree.{SameAsked, grid-again}
use Rattle.leaves.specs.Leaves.{leaf_numbered, present_leaf, fill_leaf}

leaf-maybe : (P : Block → Type 0) (l : List Block) (k : ℕ) {b : Block} → Each P l → gives b ≡ present_leaf (slice_get l k) → P b
unfolding present_leaf
leaf-maybe P [] k h e = let z : ◌≡◌ {A = ℕ} 0 1 = cc in absurd (omega arith)
leaf-maybe P (a ∷ l) zero h e = rw (gives_same e) h.0
leaf-maybe P (a ∷ l) (suc k) h e = leaf-maybe P l k h.1 e

module _ (s t : List ℕ) (asked : Asked) (name : List ℕ) (u : SameAsked s t asked name) where
  pub fill-again : (k slots : ℕ) (x : List ℕ) → gives x ≡ fill_leaf s asked name k slots → gives x ≡ fill_leaf t asked name k slots
  unfolding fill_leaf
  fill-again k slots x e =
      let y = with-back (grid s asked name) _ e in
      let w = grid-again s t asked name u y.0 y.1 in
      let z = with-back (present_leaf (leaf_numbered k y.0.filled)) _ y.2 in
      let b = leaf-maybe (SameBlock s t y.0.coding) (all_blocks y.0.filled) k (blocks-same s t y.0.coding y.0.filled w.1.2) z.1 in
      with-gives _ w.0 (with-gives _ z.1
      (z.2 ∙ ap (λ (l : List ℕ). when (eqb slots 512) (gives l) (refuses 21)) (values_same 0 512 w.1.0 b (omega arith))))
