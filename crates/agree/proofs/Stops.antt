-- What a cursor looks at: in two files that are the same on the roots and on their blocks it hands out the same stops.
use mathlib.Core.Path.{◌≡◌, refl, sym, ap, ap₂, ◌∙◌}
use mathlib.Core.List.{List, [], ◌∷◌}
use mathlib.Core.Bool.{Bool, ◌&&◌}
use Prim.Native.Nat.{ℕ, zero, suc, ◌+◌, ◌-◌, ◌*◌, ◌≤◌}
use native.Mathlib.Omega.{arith}
use lib.Dec.{leb}
use Rattle.fields.specs.Parse.{Parse, got, many, when}
use Rattle.fields.specs.Fields.{i_vec3_field}
use Rattle.fields.proofs.Laws.{Always, then-always, check-always, got-always}
use Rattle.fields.proofs.Agree.{Same, part, Tells, i_vec3-reads}
use Rattle.coordinates.specs.Coordinates.{index, global_of, aligned, origin_of}
use Rattle.coordinates.specs.declared.GlobalCoord.{GlobalCoord}
use Rattle.masks.specs.Masks.{mask_bit, ones, ones_from}
use Rattle.masks.proofs.Agree.{ones-same}
use Rattle.forms.specs.declared.Coding.{Coding}
use Rattle.nodes.specs.Nodes.{node_field, block_field}
use Rattle.nodes.specs.declared.NodeHeader.{NodeHeader}
use Rattle.nodes.specs.declared.Leaf.{Leaf}
use Rattle.nodes.proofs.Agree.{node-tells, block-tells}
use Rattle.roots.specs.Roots.{origin_field}
use Rattle.tree.specs.Topology.{Node4, Node5, leaf_field, node4_field, child_field, node5_field, root_field, roots_field}
use Rattle.tree.specs.Blocks.{filled4, filled5, blocks_field}
use Rattle.tree.proofs.Agree.{leaf-tells, node4-tells, root-tells, roots-tells}
use Rattle.cursor.specs.Inner.{Rest, Stop, stop, refused_by, node_piece, between_roots, in_node5, after, Onward, for_each, is_entered, entered_at, beyond}
use Rattle.cursor.specs.Inner.{children_of, leaving, leaf_rest, rest4, node4_rest, rest5, roots_rest}
use Rattle.cursor.specs.declared.Entered.{Entered}
use Rattle.cursor.specs.declared.Cursor.{Cursor}
use Rattle.cursor.proofs.Whole.{child-at}

-- what comes after a field that both files have
after_both : {A : Type 0} {p q : Parse A} (f g : A → ℕ → Rest Stop) {a : A} {n : ℕ} → got a n ≡ p → got a n ≡ q → f a n ≡ g a n → after p f ≡ after q g
unfolding after
after_both f g d e h = ap (λ (m : Parse _). after m f) (sym d) ∙ h ∙ ap (λ (m : Parse _). after m g) e

-- a file is the same as itself
itself : {s : List ℕ} {a b : ℕ} → Same s s a b
itself = record { long = refl; byte = λ i l h. refl }

-- Where parses end: not before their start. What such a parse reads of two files tells it of one.
up : {A : Type 0} {s : List ℕ} {at : ℕ} {P : A → Type 0} {m : Parse A} → Tells s s at at P m m → Always (λ a q. at ≤ q) m
up h a q e = h.reads.after a q e (omega arith)

leaf-up : (s : List ℕ) (o : GlobalCoord) (p at : ℕ) → Always (λ l q. at ≤ q) (leaf_field s o p at)
leaf-up s o p at = up (leaf-tells o p)

block_up : (s : List ℕ) (c : Coding) (l : Leaf) (at : ℕ) → Always (λ b q. at ≤ q) (block_field s c l at)
block_up s c l at = up (block-tells c l itself)

node-up : (s : List ℕ) (c : Coding) (n at : ℕ) → Always (λ h q. at ≤ q) (node_field s c n at)
node-up s c n at = up (node-tells n c)

node4-up : (s : List ℕ) (c : Coding) (o : GlobalCoord) (at : ℕ) → Always (λ n q. at ≤ q) (node4_field s c o at)
node4-up s c o at = up (node4-tells c o)

many-up : {A B : Type 0} (f : A → ℕ → Parse B) → ((a : A) (at : ℕ) → Always (λ b q. at ≤ q) (f a at)) → (l : List A) (at : ℕ) → Always (λ bs q. at ≤ q) (many f l at)
unfolding many
many-up f h [] at = got-always _ _ _ (omega arith)
many-up f h (a ∷ l) at = then-always _ _ _ λ b p e. then-always _ _ _ λ bs q d. got-always _ _ _ (omega (arith, h a at b p e, many-up f h l p bs q d))

filled4-up : (s : List ℕ) (c : Coding) (n : Node4) (at : ℕ) → Always (λ f q. at ≤ q) (filled4 s c n at)
unfolding filled4
filled4-up s c n at = then-always _ _ _ λ bs q d. got-always _ _ _ (many-up _ (block_up s c) _ at bs q d)

filled5-up : (s : List ℕ) (c : Coding) (n : Node5) (at : ℕ) → Always (λ f q. at ≤ q) (filled5 s c n at)
unfolding filled5
filled5-up s c n at = then-always _ _ _ λ fs q d. got-always _ _ _ (many-up _ (filled4-up s c) _ at fs q d)

-- a node that is left, its children being passed, and then k
abbrev then_node : List ℕ → Coding → ℕ → ℕ → GlobalCoord → ℕ → (ℕ → ℕ → Cursor) → Onward → Onward
then_node s c level n o at behind k a b = leaving s c level n o at (behind a b) (k a b)

module _ (s t : List ℕ) where
  -- The topology has a by m, which ends at q, and a's blocks are read by `fill`, up to r. Where both files are the same from lo on up to q and from lb on
  -- up to r, and what follows is the same in both, x of s is x' of t.
  abbrev Alike : {A B : Type 0} → ℕ → ℕ → Parse A → (A → Parse B) → Rest Stop → Rest Stop → Onward → Onward → Type 0
  Alike lo lb m fill x x' k k' = Always (λ a q. Always (λ b r. Same s t lo q → Same s t lb r → k q r ≡ k' q r → x ≡ x') (fill a)) m

  module _ (c : Coding) (lo lb : ℕ) where
    -- a leaf
    leaf-alike :
        (left : ℕ) (five : Entered) (o : GlobalCoord) (node p : ℕ) (k k' : Onward) (at block : ℕ) → lo ≤ at → lb ≤ block →
        Alike lo lb (leaf_field s o p at) (λ l. block_field s c l block) (leaf_rest s c left five o node p k at block) (leaf_rest t c left five o node p k' at block) k k'
    unfolding leaf_rest
    leaf-alike left five o node p k k' at block i j a q d b r e u v h =
        let l = leaf-tells {t = t} o p in
        after_both _ _ d (l.reads.again a q d i u)
        (after_both _ _ e ((block-tells c a (l.tells a q d i u)).reads.again b r e j v) (ap (stop _ _) h))

    -- a node whose children are alike place by place: one after another, and then the node
    module _ {A B : Type 0} (f f' : ℕ → Onward → Onward) (g : ℕ → ℕ → Parse A) (fill : A → ℕ → Parse B)
        (g-up : (p at : ℕ) → Always (λ a q. at ≤ q) (g p at)) (fill-up : (a : A) (at : ℕ) → Always (λ b q. at ≤ q) (fill a at))
        (one : (p : ℕ) (k k' : Onward) (at block : ℕ) → lo ≤ at → lb ≤ block → Alike lo lb (g p at) (λ a. fill a block) (f p k at block) (f' p k' at block) k k') where
      each-alike :
          (k k' : Onward) (ps : List ℕ) (at block : ℕ) → lo ≤ at → lb ≤ block →
          Alike lo lb (many g ps at) (λ l. many fill l block) (for_each f ps k at block) (for_each f' ps k' at block) k k'
      unfolding many for_each
      each-alike k k' [] at block i j = got-always _ _ _ (got-always _ _ _ λ x y h. h)
      each-alike k k' (p ∷ ps) at block i j =
          then-always _ _ _ λ a q d. then-always _ _ _ λ l q' e. got-always _ _ _ (then-always _ _ _ λ b r u. then-always _ _ _ λ bs r' v. got-always _ _ _ λ x y h.
          let a1 = g-up p at a q d in
          let a2 = many-up g g-up ps q l q' e in
          let a3 = fill-up a block b r u in
          let a4 = many-up fill fill-up l r bs r' v in
          one p (for_each f ps k) (for_each f' ps k') at block i j a q d b r u (part x (omega arith) (omega arith)) (part y (omega arith) (omega arith))
          (each-alike k k' ps q r (omega arith) (omega arith) l q' e bs r' v x y h))

      node_alike :
          (level m n at block : ℕ) (o : GlobalCoord) (behind : ℕ → ℕ → Cursor) (k k' : Onward) → lo ≤ at → lb ≤ block →
          {h : NodeHeader} {p : ℕ} → got h p ≡ node_field s c n at → {l : List A} {q : ℕ} → got l q ≡ many g (ones (mask_bit s h.child) (8 * n)) p →
          {bs : List B} {r : ℕ} → got bs r ≡ many fill l block → Same s t lo q → Same s t lb r → k q r ≡ k' q r →
          children_of s m n f (entered_at o at) (then_node s c level n o at behind k) p block
          ≡ children_of t m n f' (entered_at o at) (then_node t c level n o at behind k') p block
      unfolding children_of leaving is_entered
      node_alike level m n at block o behind k k' i j {h} {p} d {l} {q} e {bs} {r} u x y z =
          let ups = node-up s c n at h p d in
          let upq = many-up g g-up _ p l q e in
          let node = node-tells {t = t} n c in
          let again = node.reads.again h p d i (part x (omega arith) upq) in
          let masks = node.tells h p d i (part x (omega arith) upq) in
          let here : h.child ≡ at = child-at n s c at h p d in
          let all-places : 8 * n ≡ 8 * n - 0 = omega arith in
          let last = after_both (λ h e. stop (node_piece level o h) (behind q r) (k q r)) (λ h e. stop (node_piece level o h) (behind q r) (k' q r)) d again
          (ap (stop (node_piece level o h) (behind q r)) z) in
          let main = each-alike (then_node s c level n o at behind k) (then_node t c level n o at behind k') _ p block (omega arith) j l q e bs r u x y last in
          ap₂ (λ (b : Bool) (x : Rest Stop). when b x (refused_by 22)) (ap (λ (z : ℕ). leb (at + n) z && (leb 0 (8 * n) && aligned m o)) x.long)
          ((λ i. for_each f (ones_from (mask_bit s (sym here i)) 0 (sym all-places i)) (then_node s c level n o at behind k) p block)
          ∙ main
          ∙ ap (λ (ps : List ℕ). for_each f' ps (then_node t c level n o at behind k') p block) (ones-same n masks.child-mask)
          ∙ (λ i. for_each f' (ones_from (mask_bit t (here i)) 0 (all-places i)) (then_node t c level n o at behind k') p block))

    -- a 4-node, and a root: its origin and its 5-node
    node4-alike :
        (left : ℕ) (o : GlobalCoord) (node p : ℕ) (k k' : Onward) (at block : ℕ) → lo ≤ at → lb ≤ block →
        Alike lo lb (child_field s c o p at) (λ n. filled4 s c n block) (node4_rest s c left o node p k at block) (node4_rest t c left o node p k' at block) k k'
    unfolding node4_field filled4 node4_rest rest4
    node4-alike left o node p k k' at block i j =
        let place = global_of 32 128 o (index p) in
        let five = beyond o node p in
        then-always _ _ _ λ h b d. then-always _ _ _ λ ls q e. got-always _ _ _ (then-always _ _ _ λ bs r u. got-always _ _ _ λ x y z.
        let a1 = many-up _ (leaf-up s place) _ b ls q e in
        after_both _ _ d ((node-tells {t = t} 512 c).reads.again h b d i (part x (omega arith) a1))
        (node_alike (leaf_rest s c left five place at) (leaf_rest t c left five place at) (leaf_field s place) (block_field s c) (leaf-up s place) (block_up s c)
        (leaf-alike left five place at) 1 128 512 at block place (in_node5 left five) k k' i j d e u x y z))

    root_alike :
        (left : ℕ) (earlier : List GlobalCoord) (k k' : Onward) (at block : ℕ) → lo ≤ at → lb ≤ block →
        Alike lo lb (root_field s c earlier at) (λ n. filled5 s c n block)
        (after (i_vec3_field s at) (λ v p. after (node_field s c 4096 p) (λ h q. rest5 s c left (entered_at (origin_of v) p) k q block)))
        (after (i_vec3_field t at) (λ v p. after (node_field t c 4096 p) (λ h q. rest5 t c left (entered_at (origin_of v) p) k' q block))) k k'
    unfolding root_field origin_field node5_field filled5 rest5
    root_alike left earlier k k' at block i j =
        then-always _ _ _ (then-always _ _ _ λ v p d. check-always _ _ _ _ λ ok. got-always _ _ _
        (then-always _ _ _ λ h b e. then-always _ _ _ λ ns q g. got-always _ _ _ (then-always _ _ _ λ fs r u. got-always _ _ _ λ x y z.
        let a1 = (i_vec3-reads {t = t} {lo = lo}).after v p d i in
        let a2 = node-up s c 4096 p h b e in
        let a3 = many-up _ (λ i. node4-up s c _) _ b ns q g in
        after_both _ _ d (i_vec3-reads.again v p d i (part x (omega arith) (omega arith)))
        (after_both _ _ e ((node-tells {t = t} {lo = lo} 4096 c).reads.again h b e (omega arith) (part x (omega arith) a3))
        (node_alike (node4_rest s c left (origin_of v) p) (node4_rest t c left (origin_of v) p) (child_field s c (origin_of v)) (filled4 s c) (λ i. node4-up s c _) (filled4-up s c)
        (node4-alike left (origin_of v) p) 2 4096 4096 p block (origin_of v) (between_roots left) k k' (omega arith) j e g u x y z)))))

    -- So from the start of the roots: a cursor hands out the same stops in both files.
    pub roots-alike :
        (count : ℕ) (earlier : List GlobalCoord) (at block : ℕ) → lo ≤ at → lb ≤ block →
        Always (λ ns q. Always (λ fs r. Same s t lo q → Same s t lb r → roots_rest s c count at block ≡ roots_rest t c count at block) (blocks_field s c ns block))
        (roots_field s c count earlier at)
    unfolding many roots_field roots_rest
    roots-alike zero earlier at block i j = got-always _ _ _ (got-always _ _ _ λ x y. refl)
    roots-alike (suc count) earlier at block i j =
        then-always _ _ _ λ n q d. then-always _ _ _ λ ns q' e. got-always _ _ _ (then-always _ _ _ λ f r u. then-always _ _ _ λ fs r' v. got-always _ _ _ λ x y.
        let a1 = up (root-tells earlier c) n q d in
        let a2 = up (roots-tells count _ c) ns q' e in
        let a3 = filled5-up s c n block f r u in
        let a4 = many-up _ (filled5-up s c) ns r fs r' v in
        root_alike count earlier (roots_rest s c count) (roots_rest t c count) at block i j n q d f r u (part x (omega arith) (omega arith)) (part y (omega arith) (omega arith))
        (roots-alike count _ q r (omega arith) (omega arith) ns q' e fs r' v x y))
