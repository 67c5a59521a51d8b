-- Laws of passing: where a parse ends of which nothing else is kept, one of its parts being passed.
use mathlib.Core.Path.{◌≡◌, refl, sym, ap, ◌∙◌}
use mathlib.Core.List.{List, [], ◌∷◌, ◌++◌}
use mathlib.Core.Bool.{Bool}
use Prim.Native.Nat.{ℕ, suc, ◌+◌, ◌-◌, ◌*◌, ◌≤◌, ◌<◌}
use native.Mathlib.Numerals.{add-one, unary_clauses}
use native.Mathlib.Omega.{arith}
use lib.ListN.{length}
use lib.Dec.{leb, lit≤}
use Rattle.std.proofs.Common.{None, Some}
use Rattle.fields.specs.Parse.{Parse, got, fails, then, check, field, many}
use Rattle.fields.specs.Fields.{bytes_field}
use Rattle.fields.specs.declared.Span.{Span}
use Rattle.fields.proofs.Laws.{then-got, then-fails, check-then, made_then, Always, then-always, got-always, field_back, field-whole, field_past, field-long}
use Rattle.coordinates.specs.declared.GlobalCoord.{GlobalCoord}
use Rattle.coordinates.specs.declared.Index.{Index}
use Rattle.masks.specs.Masks.{mask_bit, ones, ones_from, count_below}
use Rattle.masks.specs.Inner.{next_one}
use Rattle.masks.proofs.Laws.{next-none, next-some}
use Rattle.forms.specs.declared.Coding.{Coding}
use Rattle.nodes.specs.Nodes.{node_field}
use Rattle.fields.specs.Inner.{end_of}
use Rattle.nodes.specs.declared.NodeHeader.{NodeHeader}
use Rattle.nodes.proofs.Laws.{node-back, end_back, end-fails}
use Rattle.roots.specs.Roots.{origin_field}
use Rattle.tree.specs.Topology.{leaf_field, node4_field, child_field, node5_field, root_field, roots_field}

-- a part that is there, and one that is refused; what is made of a parse's value does not move its end
module _ {A B : Type 0} {m : Parse A} (f : A → ℕ → Parse B) where
  pub end-got : {a : A} {p : ℕ} → got a p ≡ m → end_of (f a p) ≡ end_of (then m f)
  unfolding then
  end-got e = ap (λ (m : Parse A). end_of (then m f)) e

  pub end_refused : {k : ℕ} → fails k ≡ m → fails k ≡ end_of (then m f)
  unfolding end_of
  end_refused e = then-fails _ (then-fails f e)

pub end-made : {A B : Type 0} (m : Parse A) (g : A → B) → end_of m ≡ end_of (then m (λ a n. got (g a) n))
unfolding end_of
end-made m g = sym (made_then m g _)

-- One member of a run: where it ends, the others go on.
module _ {A B : Type 0} (f : A → ℕ → Parse B) (a : A) (l : List A) (at : ℕ) where
  pub many_more : {p : ℕ} → got tt p ≡ end_of (f a at) → end_of (many f l p) ≡ end_of (many f (a ∷ l) at)
  unfolding many
  many_more {p} e = end-made _ _ ∙ end-got _ (end_back _ e).1

  pub many-fails : {k : ℕ} → fails k ≡ end_of (f a at) → fails k ≡ end_of (many f (a ∷ l) at)
  unfolding many
  many-fails e = end_refused _ (end-fails _ e)

-- the same for the ones of a mask from a place on
module _ {B : Type 0} (f : ℕ → ℕ → Parse B) (bit : ℕ → Bool) (n from at : ℕ) where
  pub ones_none : None ≡ next_one bit n from → got tt at ≡ end_of (many f (ones_from bit from (n - from)) at)
  unfolding many end_of then
  ones_none e = rw ((next-none bit n from).0 (sym e))

  module _ {q : Index} (e : Some q ≡ next_one bit n from) where
    pub ones-more : {p : ℕ} → got tt p ≡ end_of (f q.0 at) → end_of (many f (ones_from bit (q.0 + 1) (n - (q.0 + 1))) p) ≡ end_of (many f (ones_from bit from (n - from)) at)
    ones-more g = rw ((next-some bit n from q).0 (sym e), add-one q.0) (many_more f q.0 _ at g)

    pub ones-fails : {k : ℕ} → fails k ≡ end_of (f q.0 at) → fails k ≡ end_of (many f (ones_from bit from (n - from)) at)
    ones-fails g = rw ((next-some bit n from q).0 (sym e)) (many-fails f q.0 _ at g)

-- The masks of leaves, in a row, end where as many bytes do.
bytes-end : (s : List ℕ) (n at : ℕ) → end_of (bytes_field s n at) ≡ check (leb (at + n) (length s)) 2 (got tt (at + n))
unfolding end_of field then
bytes-end s n at = check-then _ _ _ _

pub leaves-passed :
    (s : List ℕ) (o : GlobalCoord) (l : List ℕ) (at : ℕ) → at ≤ length s → end_of (bytes_field s (64 * length l) at) ≡ end_of (many (leaf_field s o) l at)
unfolding many leaf_field end_of then
leaves-passed s o [] at h = sym (then-got _ (field-whole s at 0 _ _ (omega arith) refl) (simp unary_clauses))
leaves-passed s o (x ∷ l) at h = go (bytes_field s 64 at) refl (leaves-passed s o l)
  where
    go : (m : Parse Span) → m ≡ bytes_field s 64 at → ((p : ℕ) → p ≤ length s → end_of (bytes_field s (64 * length l) p) ≡ end_of (many (leaf_field s o) l p)) →
        end_of (bytes_field s (64 * suc (length l)) at) ≡ end_of (many (leaf_field s o) (x ∷ l) at)
    go (got w p) e later =
        let b = field_back s at 64 _ e in
        let same : at + 64 * suc (length l) ≡ p + 64 * length l = simp unary_clauses (omega arith) in
        bytes-end s _ at ∙ ap (λ (n : ℕ). check (leb n (length s)) 2 (got tt n)) same ∙ sym (bytes-end s _ p) ∙ later p (omega arith)
        ∙ many_more (leaf_field s o) x l at (then-got _ (then-got _ e refl) refl)
    go (fails j) e later =
        let past = field-long s at 64 _ e in
        sym (then-fails _ (field_past s at _ _ (simp unary_clauses (omega arith)))) ∙ many-fails (leaf_field s o) x l at (then-fails _ (then-fails _ (field_past s at 64 _ past)))

-- A node behind its header: a 4-node with so many leaves, and a 5-node.
module _ (s : List ℕ) (c : Coding) (o : GlobalCoord) (at : ℕ) {h : NodeHeader} {p : ℕ} where
  pub node4-passed :
      {n : ℕ} → got h p ≡ node_field s c 512 at → n ≡ count_below (mask_bit s h.child) 4096 → end_of (bytes_field s (64 * n) p) ≡ end_of (node4_field s c o at)
  unfolding node4_field
  node4-passed e count = rw count (leaves-passed s o _ p (node-back 512 s c at refl (lit≤ tt) h p e).inside ∙ end-made _ _ ∙ end-got _ e)

  pub node5-passed : got h p ≡ node_field s c 4096 at → end_of (many (child_field s c o) (ones (mask_bit s h.child) 32768) p) ≡ end_of (node5_field s c o at)
  unfolding node5_field
  node5-passed e = end-made _ _ ∙ end-got _ e

-- a 5-node has the origin that it was read for
node5-origin : (s : List ℕ) (c : Coding) (o : GlobalCoord) (p : ℕ) → Always (λ n q. n.origin ≡ o) (node5_field s c o p)
unfolding node5_field
node5-origin s c o p = then-always _ _ _ λ h q e. then-always _ _ _ λ ns r f. got-always _ _ _ refl

-- The roots that are left, i of count being passed: none, or one more, whose origin or nodes are refused, or which is passed.
module _ (s : List ℕ) (c : Coding) (i count at : ℕ) (earlier : List GlobalCoord) where
  pub roots-none : count ≤ i → got tt at ≡ end_of (roots_field s c (count - i) earlier at)
  unfolding roots_field end_of then
  roots-none h =
      let k : count - i ≡ 0 = omega arith in
      rw k

  module _ (h : i < count) where
    one_left : count - i ≡ suc (count - (i + 1))
    one_left = omega arith

    pub origin-fails : {k : ℕ} → fails k ≡ origin_field s earlier at → fails k ≡ end_of (roots_field s c (count - i) earlier at)
    unfolding roots_field root_field
    origin-fails e = rw one_left (end_refused _ (then-fails _ e))

    module _ {o : GlobalCoord} {p : ℕ} (e : got o p ≡ origin_field s earlier at) where
      pub node-fails : {k : ℕ} → fails k ≡ end_of (node5_field s c o p) → fails k ≡ end_of (roots_field s c (count - i) earlier at)
      unfolding roots_field root_field
      node-fails g = rw one_left (end_refused _ (then-got _ e (end-fails _ g)))

      pub roots-more :
          {q : ℕ} (later : List GlobalCoord) → later ≡ earlier ++ (o ∷ []) → got tt q ≡ end_of (node5_field s c o p) →
          end_of (roots_field s c (count - (i + 1)) later q) ≡ end_of (roots_field s c (count - i) earlier at)
      unfolding roots_field root_field
      roots-more later l g =
          let n = end_back _ g in
          let same : later ≡ earlier ++ (n.0.origin ∷ []) = l ∙ ap (λ (o : GlobalCoord). earlier ++ (o ∷ [])) (sym (node5-origin s c o p n.0 _ n.1)) in
          rw (one_left, same) (end-made _ _ ∙ end-got _ (then-got _ e n.1))
