-- Laws of the definitions, by which the functions' proofs go.
use mathlib.Core.Path.{◌≡◌, refl, sym, ap, ◌∙◌}
use mathlib.Core.List.{List}
use mathlib.Core.Bool.{true, false}
use Prim.Native.Nat.{ℕ, ◌+◌, ◌*◌, ◌%◌, ◌≤◌}
use native.Mathlib.Omega.{arith}
use lib.Dec.{lit≤}
use lib.ListN.{length}
use borrow.Author.Tests.{not-true}
use Rattle.fields.specs.Parse.{Parse, got, fails, then}
use Rattle.fields.specs.Inner.{end_of}
use Rattle.fields.specs.declared.Span.{Span}
use Rattle.fields.proofs.Laws.{then-got, through, made_then, check-then, field_back, Always, then-always, check-always, got-always}
use Rattle.half.specs.Inner.{IsWidth}
use Rattle.masks.specs.Inner.{IsMask}
use Rattle.masks.specs.Masks.{mask_bit, count_below, overlap, agree}
use Rattle.masks.proofs.Laws.{agree-ones}
use Rattle.runs.specs.Runs.{values_field}
use Rattle.forms.specs.declared.Coding.{Coding}
use Rattle.forms.specs.declared.Stored.TheVariants.{Every as EveryPlace, Childless}
use Rattle.runs.specs.Inner.{Held}
use Rattle.runs.proofs.Laws.{values-held}
use Rattle.runs.proofs.Agree.{values-ends}
pub use Rattle.forms.proofs.Laws.{whole-mask}
use Rattle.nodes.specs.Nodes.{node_field, block_field}
use Rattle.nodes.specs.Inner.{block_head}
use Rattle.nodes.specs.declared.NodeHeader.{NodeHeader}
use Rattle.nodes.specs.declared.Leaf.{Leaf}
use Rattle.nodes.specs.declared.Block.{Block}

-- a node that was read: its masks lie in the file, it can be read from, and it ends after its masks and in the file
pub record NodeRead (s : List ℕ) (c : Coding) (n at : ℕ) (h : NodeHeader) (e : ℕ) : Type 0 where
  pub child : IsMask s h.child n
  pub value : IsMask s h.value n
  pub apart : overlap (mask_bit s h.child) (mask_bit s h.value) (8 * n) ≡ false
  pub held : IsWidth c.width → Held s c n h.child h.value h.values
  pub after : at + 2 * n ≤ e
  pub inside : e ≤ length s

pub node-back : (n : ℕ) (s : List ℕ) (c : Coding) (at : ℕ) → n % 8 ≡ 0 → n ≤ 4096 → Always (NodeRead s c n at) (node_field s c n at)
unfolding node_field
node-back n s c at h k =
    then-always _ _ _ λ child p e. then-always _ _ _ λ value q f. check-always _ _ _ _ λ ok. then-always _ _ _ λ v r g. got-always _ _ _
    (let a = whole-mask s at n h k e in
    let b = whole-mask s p n h k f in
    let d = values-ends c Childless s n child.start value.start q g in
    record {
      child = a;
      value = b;
      apart = not-true _ ok;
      held = λ w. values-held c Childless s n child.start value.start q a b w g;
      after = omega (arith, (field_back s at n _ e).2, (field_back s p n _ f).2, d.0);
      inside = d.1;
    })

-- A block is what stands before its values, and these; its mask stands at its start.
pub block-parts :
    (s : List ℕ) (c : Coding) (l : Leaf) (at : ℕ) →
    block_field s c l at
    ≡ then (block_head s c.version l at) λ u p. then (values_field s c EveryPlace 64 at at p) λ v q. got (record { origin = l.origin; mask = at; values = v }) q
unfolding block_field block_head
block-parts s c l at = through _ _ _ _ λ w p e.
    let f : w.start ≡ at = ap (λ (w : Span). w.start) (field_back s at 64 _ e).1 in
    rw f (sym (check-then _ _ _ _))

-- where what stands before them was read, the mask lies in the file and has the topology's ones
pub head-back :
    (s : List ℕ) (version : ℕ) (l : Leaf) (at : ℕ) →
    Always (λ u p. IsMask s at 64 × (count_below (mask_bit s at) 512 ≡ count_below (mask_bit s l.mask) 512)) (block_head s version l at)
unfolding block_head
head-back s version l at = then-always _ _ _ λ w p e. check-always _ _ _ _ λ ok u q f.
    let g : w.start ≡ at = ap (λ (w : Span). w.start) (field_back s at 64 _ e).1 in
    (rw g at (whole-mask s at 64 refl (lit≤ tt) e), ap length (agree-ones _ _ 512 (rw g at ok)))

-- the block's end is that of its values
pub block-end :
    (s : List ℕ) (c : Coding) (l : Leaf) (at : ℕ) {p : ℕ} → got tt p ≡ block_head s c.version l at →
    end_of (values_field s c EveryPlace 64 at at p) ≡ end_of (block_field s c l at)
unfolding end_of
block-end s c l at e = rw (block-parts s c l at) (sym (made_then _ _ _) ∙ ap (λ (m : Parse Block). then m (λ b q. got tt q)) (then-got _ e refl))

-- the way back from a parse's end
module _ {A : Type 0} where
  pub end_back : (m : Parse A) {u : Unit} {n : ℕ} → got u n ≡ end_of m → (a : A) × (got a n ≡ m)
  unfolding end_of then
  end_back (got a p) {u} {n} e = let f : n ≡ p = cc in (a, ap (got a) f)
  end_back (fails k) e = let z : ◌≡◌ {A = ℕ} 0 1 = cc in absurd (omega arith)

  pub end-fails : (m : Parse A) {k : ℕ} → fails k ≡ end_of m → fails k ≡ m
  unfolding end_of then
  end-fails (got a p) e = let z : ◌≡◌ {A = ℕ} 0 1 = cc in absurd (omega arith)
  end-fails (fails j) {k} e = let f : k ≡ j = cc in ap fails f

-- a block that was read: its mask lies in the file and agrees with the topology's, it can be read from, and it ends in the file
pub record BlockRead (s : List ℕ) (c : Coding) (l : Leaf) (b : Block) (e : ℕ) : Type 0 where
  pub mask : IsMask s b.mask 64
  pub agrees : agree (mask_bit s b.mask) (mask_bit s l.mask) 512 ≡ true
  pub origin : b.origin ≡ l.origin
  pub held : IsWidth c.width → Held s c 64 b.mask b.mask b.values
  pub inside : e ≤ length s

pub block_back : (s : List ℕ) (c : Coding) (l : Leaf) (at : ℕ) → Always (BlockRead s c l) (block_field s c l at)
unfolding block_field
block_back s c l at =
    then-always _ _ _ λ mask p e. check-always _ _ _ _ λ ok. then-always _ _ _ λ u q f. then-always _ _ _ λ v r g. got-always _ _ _
    (let m = whole-mask s at 64 refl (lit≤ tt) e in
    record {
      mask = m;
      agrees = ok;
      origin = refl;
      held = λ w. values-held c EveryPlace s 64 mask.start mask.start q m m w g;
      inside = (values-ends c EveryPlace s 64 mask.start mask.start q g).1;
    })
