-- From its start a cursor hands out the tree's pieces, in the order of the active list, and then the end; where a block is refused, some of them
-- and then that refusal.
use mathlib.Core.Path.{◌≡◌, refl, sym, ap, subst, ◌∙◌}
use mathlib.Core.List.{List, [], ◌∷◌, ◌++◌, append_assoc, append-nil, flat_map}
use mathlib.Core.Bool.{true}
use Rattle.std.specs.Prelude.{Some}
use Prim.Native.Nat.{ℕ, zero, suc, ◌-◌, ◌*◌, ◌%◌, ◌≤◌}
use native.Mathlib.Omega.{arith}
use lib.Dec.{lit≤}
use Rattle.fields.specs.Parse.{Parse, got, fails, then, many}
use Rattle.fields.specs.declared.Span.{Span}
use Rattle.fields.proofs.Laws.{Always, then-always, check-always, got-always, field_back, when_true}
use Rattle.coordinates.specs.Coordinates.{index, global_of, aligned, origin_of}
use Rattle.coordinates.specs.declared.GlobalCoord.{GlobalCoord}
use Rattle.coordinates.proofs.Axis.{and_both}
use Rattle.coordinates.proofs.Laws.{child-aligned}
use Rattle.masks.specs.Masks.{mask_bit, ones, ones_from}
use Rattle.forms.specs.declared.Coding.{Coding}
use Rattle.nodes.specs.Nodes.{node_field, block_field}
use Rattle.nodes.specs.declared.NodeHeader.{NodeHeader}
use Rattle.nodes.proofs.Laws.{node-back}
use Rattle.roots.specs.Roots.{origin_field}
use Rattle.tree.specs.Topology.{Node5, leaf_field, node4_field, child_field, node5_field, root_field, roots_field}
use Rattle.tree.specs.Blocks.{Filled5, filled4, filled5, blocks_field}
use Rattle.tree.specs.Active.{Piece, leaf_piece, pieces4, pieces5, pieces, records_of, active_list}
use Rattle.tree.proofs.Lists.{flat_map-map}
use Rattle.tree.proofs.Coverage.{Parsed}
use Rattle.cursor.specs.Inner.{Rest, Stop, only, stop, prepend, pieces_of, after, Onward, for_each, between_roots, in_node5}
use Rattle.cursor.specs.Inner.{entered_at, beyond, node_piece, children_of, leaving, leaf_rest, rest4, node4_rest, rest5, roots_rest, to_come}
use Rattle.cursor.specs.declared.Cursor.{Cursor}
use Rattle.cursor.specs.declared.Entered.{Entered}
use Rattle.cursor.proofs.Laws.{after-got, entered-aligned, to-come0}

prepend-append : (xs ys : List Piece) (r : Rest Piece) → prepend (xs ++ ys) r ≡ prepend xs (prepend ys r)
prepend-append xs ys r = ap (λ (l : List Piece). record { items = l; refusal = r.refusal }) (append_assoc xs ys r.items)

-- Of what the blocks give by m, x hands out the pieces, and then what k does from behind them; where they are refused, x ends with that refusal.
unfoldable Hands : {B : Type 0} → Parse B → (B → List Piece) → (ℕ → Rest Stop) → Rest Stop → Type 0
Hands (got b r) own k x = pieces_of x ≡ prepend (own b) (pieces_of (k r))
Hands (fails j) own k x = x.refusal ≡ Some j

module _ {B : Type 0} (own : B → List Piece) (k : ℕ → Rest Stop) (x : Rest Stop) where
  -- in each of the two cases
  hands-here : (b : B) (r : ℕ) → pieces_of x ≡ prepend (own b) (pieces_of (k r)) → Hands (got b r) own k x
  unfolding Hands
  hands-here b r e = e

  hands-got : (m : Parse B) {b : B} {r : ℕ} → Hands m own k x → got b r ≡ m → pieces_of x ≡ prepend (own b) (pieces_of (k r))
  unfolding Hands
  hands-got m h e = subst (λ (m : Parse B). Hands m own k x) (sym e) h

  hands-fails : (m : Parse B) {j : ℕ} → Hands m own k x → fails j ≡ m → x.refusal ≡ Some j
  unfolding Hands
  hands-fails m h e = subst (λ (m : Parse B). Hands m own k x) (sym e) h

  -- step by step: of a parse after the other, and of what is made of a parse's value
  hands_then :
      {C : Type 0} (own' : C → List Piece) (k' : ℕ → Rest Stop) (m : Parse B) (f : B → ℕ → Parse C) → Hands m own k x →
      ((b : B) (r : ℕ) → pieces_of x ≡ prepend (own b) (pieces_of (k r)) → Hands (f b r) own' k' x) → Hands (then m f) own' k' x
  unfolding Hands then
  hands_then own' k' (got b r) f h g = g b r h
  hands_then own' k' (fails j) f h g = h

  hands-made : {C : Type 0} (own' : C → List Piece) (m : Parse B) (g : B → C) → Hands m own k x → ((b : B) → own b ≡ own' (g b)) → Hands (then m (λ b r. got (g b) r)) own' k x
  unfolding Hands
  hands-made own' m g h e = hands_then own' k m _ h λ b r u. u ∙ ap (λ (l : List Piece). prepend l (pieces_of (k r))) (e b)

  -- these before the pieces ys, and these after xs
  hands_before :
      (m : Parse B) (ys : List Piece) (k' : ℕ → Rest Stop) → Hands m own k x → ((r : ℕ) → pieces_of (k r) ≡ prepend ys (pieces_of (k' r))) →
      Hands m (λ b. own b ++ ys) k' x
  unfolding Hands
  hands_before (got b r) ys k' h e = h ∙ ap (prepend (own b)) (e r) ∙ sym (prepend-append (own b) ys (pieces_of (k' r)))
  hands_before (fails j) ys k' h e = h

  hands-after : (m : Parse B) (xs : List Piece) (y : Rest Stop) → Hands m own k x → pieces_of y ≡ prepend xs (pieces_of x) → Hands m (λ b. xs ++ own b) k y
  unfolding Hands
  hands-after (got b r) xs y h e = e ∙ ap (prepend xs) h ∙ sym (prepend-append xs (own b) (pieces_of (k r)))
  hands-after (fails j) xs y h e = ap (λ (r : Rest Piece). r.refusal) e ∙ h

  hands-same : (m : Parse B) {y : Rest Stop} → x ≡ y → Hands m own k x → Hands m own k y
  hands-same m e h = subst (Hands m own k) e h

hands-stop : {B : Type 0} (m : Parse B) (piece : B → Piece) (behind : ℕ → Cursor) (k : ℕ → Rest Stop) → Hands m (λ b. piece b ∷ []) k (after m (λ b r. stop (piece b) (behind r) (k r)))
unfolding Hands after
hands-stop (got b r) piece behind k = refl
hands-stop (fails j) piece behind k = refl

-- Where the topology has this by m, and its blocks are `fill` of it, x hands these out, and then what k does from behind both.
abbrev Given : {A B : Type 0} → Parse A → (A → Parse B) → (B → List Piece) → Rest Stop → Onward → Type 0
Given m fill own x k = Always (λ a q. Hands (fill a) own (k q) x) m

-- a node's child mask stands where the node does
pub child-at : (n : ℕ) (s : List ℕ) (c : Coding) (at : ℕ) → Always (λ h p. h.child ≡ at) (node_field s c n at)
unfolding node_field
child-at n s c at =
    then-always _ _ _ λ child p e. then-always _ _ _ λ value q f. check-always _ _ _ _ λ ok. then-always _ _ _ λ v r g. got-always _ _ _
    (ap (λ (w : Span). w.start) (field_back s at n _ e).1)

-- A node whose children are given place by place: their pieces come first, and then the node.
module _ {A B : Type 0} (f : ℕ → Onward → Onward) (g : ℕ → ℕ → Parse A) (fill : A → ℕ → Parse B) (own : B → List Piece)
    (one : (p : ℕ) (k : Onward) (at block : ℕ) → Given (g p at) (λ a. fill a block) own (f p k at block) k) where
  each-given : (k : Onward) (ps : List ℕ) (at block : ℕ) → Given (many g ps at) (λ l. many fill l block) (flat_map own) (for_each f ps k at block) k
  unfolding many for_each flat_map
  each-given k [] at block = got-always _ _ _ (hands-here _ _ _ _ _ refl)
  each-given k (p ∷ ps) at block =
      then-always _ _ _ λ a q d. then-always _ _ _ λ l q' e. got-always _ _ _
      (hands_then _ _ _ _ _ _ _ (one p (for_each f ps k) at block a q d) λ b r u.
      hands-made _ _ _ _ _ _ (hands-after _ _ _ _ (own b) _ (each-given k ps q r l q' e) u) λ bs. refl)

  node-given :
      (s : List ℕ) (c : Coding) (level m n at block : ℕ) (o : GlobalCoord) (behind : ℕ → ℕ → Cursor) (k : Onward) → n % 8 ≡ 0 → n ≤ 4096 → aligned m o ≡ true →
      {h : NodeHeader} {p : ℕ} → got h p ≡ node_field s c n at → {l : List A} {q : ℕ} → got l q ≡ many g (ones (mask_bit s h.child) (8 * n)) p →
      Hands (many fill l block) (λ bs. flat_map own bs ++ node_piece level o h ∷ []) (k q)
      (children_of s m n f (entered_at o at) (λ a b. leaving s c level n o at (behind a b) (k a b)) p block)
  unfolding children_of leaving
  node-given s c level m n at block o behind k words small multiple {h} {p} d {l} {q} e =
      let b = node-back n s c at words small h p d in
      let node = entered-aligned s m n (entered_at o at) (omega (arith, b.after, b.inside)) (omega arith) (sym multiple) in
      let same = child-at n s c at h p d in
      let all-places : 8 * n ≡ 8 * n - 0 = omega arith in
      let then : Onward = λ a b. leaving s c level n o at (behind a b) (k a b) in
      hands-same _ _ _ _ (when_true _ node (λ i. for_each f (ones_from (mask_bit s (same i)) 0 (all-places i)) then p block))
      (hands_before _ _ _ _ (node_piece level o h ∷ []) _ (each-given then (ones (mask_bit s h.child) (8 * n)) p block l q e) λ r. ap pieces_of (sym (after-got _ d refl)))

module _ (s : List ℕ) (c : Coding) where
  leaf-given :
      (left : ℕ) (five : Entered) (o : GlobalCoord) (node p : ℕ) (k : Onward) (at block : ℕ) →
      Given (leaf_field s o p at) (λ l. block_field s c l block) (λ b. leaf_piece b ∷ []) (leaf_rest s c left five o node p k at block) k
  unfolding leaf_rest
  leaf-given left five o node p k at block l q d = hands-same _ _ _ _ (after-got _ d refl) (hands-stop _ leaf_piece _ (k q))

  node4-given :
      (left : ℕ) (o : GlobalCoord) (node : ℕ) → aligned 4096 o ≡ true → (p : ℕ) (k : Onward) (at block : ℕ) →
      Given (child_field s c o p at) (λ n. filled4 s c n block) pieces4 (node4_rest s c left o node p k at block) k
  unfolding node4_field filled4 node4_rest rest4 pieces4
  node4-given left o node multiple p k at block =
      let five = beyond o node p in
      let place = global_of 32 128 o (index p) in
      then-always _ _ _ λ h i d. then-always _ _ _ λ ls q e. got-always _ _ _
      (hands-made _ _ _ _ _ _
      (hands-same _ _ _ _ (after-got _ d refl)
      (node-given (leaf_rest s c left five place at) (leaf_field s place) (block_field s c) (λ b. leaf_piece b ∷ []) (leaf-given left five place at)
      s c 1 128 512 at block place (in_node5 left five) k refl (lit≤ tt) (child-aligned 32 128 o (index p) (lit≤ tt) (lit≤ tt) multiple) d e))
      λ bs. ap (λ (ps : List Piece). ps ++ node_piece 1 place h ∷ []) (flat_map-map leaf_piece bs))

  node5-given :
      (left : ℕ) (o : GlobalCoord) → aligned 4096 o ≡ true → (k : Onward) (at block : ℕ) →
      Given (node5_field s c o at) (λ n. filled5 s c n block) pieces5 (after (node_field s c 4096 at) (λ h p. rest5 s c left (entered_at o at) k p block)) k
  unfolding node5_field filled5 rest5 pieces5
  node5-given left o multiple k at block =
      then-always _ _ _ λ h p d. then-always _ _ _ λ ns q e. got-always _ _ _
      (hands-made _ _ _ _ _ _
      (hands-same _ _ _ _ (after-got _ d refl)
      (node-given (node4_rest s c left o at) (child_field s c o) (filled4 s c) pieces4 (node4-given left o at multiple)
      s c 2 4096 4096 at block o (between_roots left) k refl (lit≤ tt) multiple d e))
      λ fs. refl)

  -- a root: here it does not matter that its origin is none of the earlier ones
  root-given :
      (left : ℕ) (earlier : List GlobalCoord) (at block : ℕ) →
      Given (root_field s c earlier at) (λ n. filled5 s c n block) pieces5 (roots_rest s c (suc left) at block) (roots_rest s c left)
  unfolding root_field origin_field roots_rest
  root-given left earlier at block =
      then-always _ _ _ (then-always _ _ _ λ v p d. check-always _ _ _ _ λ ok. got-always _ _ _ λ n q e.
      hands-same _ _ _ _ (after-got _ d refl) (node5-given left (origin_of v) (and_both _ _ ok).0 (roots_rest s c left) p block n q e))

  roots-given :
      (count : ℕ) (earlier : List GlobalCoord) (at block : ℕ) →
      Given (roots_field s c count earlier at) (λ ns. blocks_field s c ns block) pieces (roots_rest s c count at block) (λ q r. only [])
  unfolding many roots_field roots_rest pieces flat_map
  roots-given zero earlier at block = got-always _ _ _ (hands-here _ _ _ _ _ refl)
  roots-given (suc count) earlier at block =
      then-always _ _ _ λ n q d. then-always _ _ _ λ ns q' e. got-always _ _ _
      (hands_then _ _ _ _ _ _ _ (root-given count earlier at block n q d) λ f r u.
      hands-made _ _ _ _ _ _ (hands-after _ _ _ _ (pieces5 f) _ (roots-given count (earlier ++ (n.origin ∷ [])) q r ns q' e) u) λ fs. refl)

  -- Roots that were read, from the cursor before them on: where their blocks are read, their pieces and then the end; where one is refused, that
  -- refusal behind some pieces.
  module _ (count : ℕ) (earlier : List GlobalCoord) (at block : ℕ) {roots : List Node5} {end : ℕ} (d : got roots end ≡ roots_field s c count earlier at) where
    handed : Hands (blocks_field s c roots block) pieces (λ r. only []) (to_come s c (between_roots count at block))
    handed = hands-same _ _ _ _ (sym (to-come0 s c count at block)) (roots-given count earlier at block roots end d)

    pub blocks-there : {filled : List Filled5} {past : ℕ} → got filled past ≡ blocks_field s c roots block → pieces_of (to_come s c (between_roots count at block)) ≡ only (pieces filled)
    blocks-there {filled} e = hands-got _ _ _ _ handed e ∙ ap only (append-nil (pieces filled))

    pub blocks-refused : {j : ℕ} → fails j ≡ blocks_field s c roots block → (to_come s c (between_roots count at block)).refusal ≡ Some j
    blocks-refused e = hands-fails _ _ _ _ handed e

-- A tree that was read with its blocks. The start is the cursor between roots with all of them to come.
module _ {s : List ℕ} {c : Coding} {roots : List Node5} {filled : List Filled5} (t : Parsed s c roots filled) where
  abbrev pub fresh : Cursor
  fresh = between_roots t.count t.start t.block

  -- From the start the tree's pieces are handed out, in order, and then the end.
  pub whole : pieces_of (to_come s c fresh) ≡ only (pieces filled)
  whole = blocks-there s c t.count [] t.start t.block t.roots-read t.blocks-read

  -- So the records of the pieces handed out, joined, are the active list.
  pub whole-list : flat_map (records_of s c) (pieces_of (to_come s c fresh)).items ≡ active_list s c filled
  whole-list = ap (λ (r : Rest Piece). flat_map (records_of s c) r.items) whole
