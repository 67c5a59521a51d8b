-- Laws of the definitions, by which the functions' proofs go.
use mathlib.Core.Path.{◌≡◌, refl, sym, ap, ◌∙◌}
use mathlib.Core.List.{List, []}
use mathlib.Core.Bool.{Bool, true, false}
use Rattle.std.specs.Prelude.{Option, None, Some, Result}
use Rattle.std.specs.Result.{IsErrAnd}
use Rattle.std.proofs.lemmas.Result.{err_from_is_err_and}
use Prim.Native.Nat.{ℕ, suc, ◌+◌, ◌-◌, ◌*◌, ◌≤◌, ◌<◌}
use native.Mathlib.Numerals.{add-one}
use native.Mathlib.Omega.{arith}
use lib.ListN.{length}
use borrow.Author.Tests.{le-leb, lt-leb, leb-true}
use Rattle.fields.specs.Parse.{Parse, got, fails, when}
use Rattle.fields.specs.Answer.{gives, refuses}
use Rattle.fields.specs.Fields.{bytes_field, i_vec3_field}
use Rattle.fields.specs.Says.{number}
use Rattle.fields.specs.declared.Span.{Span}
use Rattle.fields.specs.declared.IVec3.{IVec3}
use Rattle.fields.specs.declared.ParseError.{ParseError}
use Rattle.fields.proofs.Laws.{then-got, then-fails, when_true, when_false}
use Rattle.coordinates.specs.Coordinates.{index, global_of, aligned, origin_of}
use Rattle.coordinates.specs.declared.GlobalCoord.{GlobalCoord}
use Rattle.coordinates.specs.declared.Index.{Index}
use Rattle.coordinates.proofs.Axis.{and_both}
use Rattle.masks.specs.Masks.{mask_bit, ones_from}
use Rattle.masks.specs.Inner.{next_one}
use Rattle.masks.proofs.Laws.{next-none, next-some, next-lt}
use Rattle.forms.specs.declared.Coding.{Coding}
use Rattle.nodes.specs.Nodes.{node_field, block_field}
use Rattle.nodes.specs.declared.NodeHeader.{NodeHeader}
use Rattle.nodes.specs.declared.Block.{Block}
use Rattle.tree.specs.Topology.{leaf_field}
use Rattle.tree.specs.Active.{Piece, leaf_piece}
use Rattle.cursor.specs.Inner.{Rest, Stop, only, refused_by, stop, after, Onward, for_each, between_roots, in_node5, in_node4}
use Rattle.cursor.specs.Inner.{entered_at, beyond, is_entered, next_child, children_of, leaving, leaf_rest, node4_rest, roots_rest, from5, from4, to_come, says_piece}
use Rattle.cursor.specs.declared.Entered.{Entered}
use Rattle.cursor.specs.declared.Cursor.{Cursor}
use Rattle.cursor.specs.declared.Piece.{Piece as CodePiece}

-- what comes after a field that is there, and after one that is not
pub after-got : {A : Type 0} {m : Parse A} (f : A → ℕ → Rest Stop) {x : Rest Stop} {a : A} {n : ℕ} → got a n ≡ m → x ≡ f a n → x ≡ after m f
unfolding after
after-got f e h = h ∙ ap (λ (m : Parse _). after m f) e

pub after-fails : {A : Type 0} {m : Parse A} (f : A → ℕ → Rest Stop) {k : ℕ} → fails k ≡ m → refused_by k ≡ after m f
unfolding after
after-fails f e = ap (λ (m : Parse _). after m f) e

-- the refusal e that a `?` hands on
pub handed-piece :
    (s : List ℕ) (c : Coding) (r : Result (Option (CodePiece × Cursor)) ParseError) (e : ParseError) {x : Rest Stop} → IsErrAnd r (λ d. d ≡ e) →
    refused_by (number e) ≡ x → says_piece s c r ≡ x
handed-piece s c r e h k = let p = err_from_is_err_and r h in ap (says_piece s c) p.1 ∙ ap (λ d. refused_by (number d)) p.2 ∙ k

-- Words that are a node's: what they have, and by which test they are none.
pub record EnteredNode (s : List ℕ) (m n : ℕ) (w : Entered) : Type 0 where
  pub within : w.pos + n ≤ length s
  pub places : w.next ≤ 8 * n
  pub multiple : aligned m w.origin ≡ true

module _ (s : List ℕ) (m n : ℕ) (w : Entered) where
  pub entered-outside : length s < w.pos + n → false ≡ is_entered s m n w
  unfolding is_entered
  entered-outside h = rw (lt-leb _ _ h)

  pub entered-past : w.pos + n ≤ length s → 8 * n < w.next → false ≡ is_entered s m n w
  unfolding is_entered
  entered-past h k = rw (le-leb _ _ h, lt-leb _ _ k)

  pub entered-aligned : {b : Bool} → w.pos + n ≤ length s → w.next ≤ 8 * n → b ≡ aligned m w.origin → b ≡ is_entered s m n w
  unfolding is_entered
  entered-aligned h k e = rw (le-leb _ _ h, le-leb _ _ k) e

  pub entered-back : is_entered s m n w ≡ true → EnteredNode s m n w
  unfolding is_entered
  entered-back e =
      let a = and_both _ _ e in
      let b = and_both _ _ a.1 in
      record { within = leb-true _ _ a.0; places = leb-true _ _ b.0; multiple = b.1 }

  -- their next child
  abbrev found : Option Index
  found = next_one (mask_bit s w.pos) (8 * n) w.next

  no_node : {j : ℕ} → refuses j ≡ next_child s m n w → (is_entered s m n w ≡ false) × (j ≡ 22)
  unfolding next_child when
  no_node {j} = go (is_entered s m n w)
    where
      go : (b : Bool) → refuses j ≡ when b (gives found) (refuses 22) → (b ≡ false) × (j ≡ 22)
      go true e = cc
      go false e = (refl, cc)

  next-back : {x : Option Index} → gives x ≡ next_child s m n w → (is_entered s m n w ≡ true) × (x ≡ found)
  unfolding next_child when
  next-back {x} = go (is_entered s m n w)
    where
      go : (b : Bool) → gives x ≡ when b (gives found) (refuses 22) → (b ≡ true) × (x ≡ found)
      go true e = (refl, cc)
      go false e = (cc, cc)

  pub next-origin : {x : Option Index} → gives x ≡ next_child s m n w → aligned m w.origin ≡ true
  next-origin e = (entered-back (next-back e).0).multiple

  pub next_place : {q : Index} → gives (Some q) ≡ next_child s m n w → q.0 < 8 * n
  next_place e = next-lt (mask_bit s w.pos) (8 * n) w.next _ (sym (next-back e).1)

-- In a node: the words are none, no child is left, or the next one comes and then the rest of the node.
module _ (s : List ℕ) (m n : ℕ) (f : ℕ → Onward → Onward) (w : Entered) (k : Onward) (at block : ℕ) where
  pub children-refused : {j : ℕ} → refuses j ≡ next_child s m n w → refused_by j ≡ children_of s m n f w k at block
  unfolding children_of
  children-refused e =
      let b = no_node s m n w e in
      when_false _ (sym b.0) (ap refused_by b.1)

  pub children-none : gives None ≡ next_child s m n w → k at block ≡ children_of s m n f w k at block
  unfolding children_of for_each
  children-none e =
      let b = next-back s m n w e in
      when_true _ (sym b.0) (rw ((next-none (mask_bit s w.pos) (8 * n) w.next).0 (sym b.1)))

  pub children-some : {q : Index} → gives (Some q) ≡ next_child s m n w → f q.0 (children_of s m n f (beyond w.origin w.pos q.0) k) at block ≡ children_of s m n f w k at block
  unfolding children_of for_each
  children-some {q} e =
      let b = next-back s m n w e in
      (λ i. f q.0 (λ x y. later x y i) at block) ∙ when_true _ (sym b.0) (rw ((next-some (mask_bit s w.pos) (8 * n) w.next q).0 (sym b.1)))
    where
      later : (x y : ℕ) → children_of s m n f (beyond w.origin w.pos q.0) k x y ≡ for_each f (ones_from (mask_bit s w.pos) (suc q.0) (8 * n - suc q.0)) k x y
      later x y =
          let h = entered-back s m n w (next-back s m n w e).0 in
          let l = next_place s m n w e in
          sym (when_true _ (entered-aligned s m n (beyond w.origin w.pos q.0) h.within (omega arith) (sym h.multiple)) (rw (add-one q.0)))

-- what a cursor hands out, where its depth is known
module _ (s : List ℕ) (c : Coding) (left at block : ℕ) where
  pub to-come0 : to_come s c (between_roots left at block) ≡ roots_rest s c left at block
  unfolding to_come when
  to-come0 = refl

  pub to-come5 : (five : Entered) → to_come s c (in_node5 left five at block) ≡ from5 s c left five at block
  unfolding to_come when
  to-come5 five = refl

  pub to-come4 : (five four : Entered) → to_come s c (in_node4 left five four at block) ≡ from4 s c left five four at block
  unfolding to_come when
  to-come4 five four = refl

-- a node is left before a cursor whose words are known
pub leaving-before :
    (s : List ℕ) (c : Coding) (level n : ℕ) (origin : GlobalCoord) (node : ℕ) {x y : Cursor} {r : Rest Stop} → x ≡ y → to_come s c y ≡ r →
    leaving s c level n origin node x (to_come s c x) ≡ leaving s c level n origin node y r
leaving-before s c level n origin node {y = y} e d = (λ i. leaving s c level n origin node (e i) (to_come s c (e i))) ∙ ap (leaving s c level n origin node y) d

-- A leaf: its mask is cut off, its block is refused, or there.
module _ (s : List ℕ) (c : Coding) (left : ℕ) (five : Entered) (origin : GlobalCoord) (node p at block : ℕ) where
  abbrev leaf_from : Rest Stop
  leaf_from = leaf_rest s c left five origin node p (from4 s c left five (beyond origin node p)) at block

  pub leaf-short : {j : ℕ} → fails j ≡ bytes_field s 64 at → refused_by j ≡ leaf_from
  unfolding leaf_rest leaf_field
  leaf-short e = after-fails _ (then-fails _ e)

  module _ {w : Span} {q : ℕ} (e : got w q ≡ bytes_field s 64 at) {o : GlobalCoord} (d : o ≡ global_of 16 8 origin (index p)) where
    leaf : got (record { origin = o; mask = w.start }) q ≡ leaf_field s origin p at
    unfolding leaf_field
    leaf = then-got _ e (λ i. got (record { origin = d i; mask = w.start }) q)

    pub leaf-refused : {j : ℕ} → fails j ≡ block_field s c (record { origin = o; mask = w.start }) block → refused_by j ≡ leaf_from
    unfolding leaf_rest
    leaf-refused g = after-got _ leaf (after-fails _ g)

    pub leaf-there :
        {b : Block} {r : ℕ} {x : Piece} → got b r ≡ block_field s c (record { origin = o; mask = w.start }) block → x ≡ leaf_piece b →
        (let y = in_node4 left five (beyond origin node p) q r in stop x y (to_come s c y)) ≡ leaf_from
    unfolding leaf_rest
    leaf-there {r = r} g f = after-got _ leaf (after-got _ g (rw (f, to-come4 s c left q r five (beyond origin node p))))

-- a 4-node that is entered
pub node4-there :
    (s : List ℕ) (c : Coding) (left : ℕ) (origin : GlobalCoord) (node p at block : ℕ) {h : NodeHeader} {q : ℕ} {o : GlobalCoord} →
    got h q ≡ node_field s c 512 at → o ≡ global_of 32 128 origin (index p) →
    from4 s c left (beyond origin node p) (entered_at o at) q block ≡ node4_rest s c left origin node p (from5 s c left (beyond origin node p)) at block
unfolding node4_rest
node4-there s c left origin node p at block {q = q} g d = after-got _ g (λ i. from4 s c left (beyond origin node p) (entered_at (d i) at) q block)

-- Between roots: none is left, the next one's origin is cut off, its header is refused, or there.
module _ (s : List ℕ) (c : Coding) (left at block : ℕ) where
  pub roots-end : left ≡ 0 → only [] ≡ roots_rest s c left at block
  unfolding roots_rest
  roots-end e = rw e

  module _ (some_left : 0 < left) where
    one : left ≡ suc (left - 1)
    one = omega arith

    pub roots-short : {j : ℕ} → fails j ≡ i_vec3_field s at → refused_by j ≡ roots_rest s c left at block
    unfolding roots_rest
    roots-short e = rw one (after-fails _ e)

    module _ {v : IVec3} {p : ℕ} (e : got v p ≡ i_vec3_field s at) where
      pub roots-refused : {j : ℕ} → fails j ≡ node_field s c 4096 p → refused_by j ≡ roots_rest s c left at block
      unfolding roots_rest
      roots-refused g = rw one (after-got _ e (after-fails _ g))

      pub roots-node :
          {h : NodeHeader} {q : ℕ} {o : GlobalCoord} → got h q ≡ node_field s c 4096 p → o ≡ origin_of v →
          from5 s c (left - 1) (entered_at o p) q block ≡ roots_rest s c left at block
      unfolding roots_rest
      roots-node {q = q} g d =
          after-got _ e (after-got _ g (λ i. from5 s c (left - 1) (entered_at (d i) p) q block)) ∙ sym (ap (λ (n : ℕ). roots_rest s c n at block) one)
