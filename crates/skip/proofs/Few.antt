-- How many pieces so many roots have at most, and how many records and leaves these are.
use mathlib.Core.List.{List, [], ◌∷◌}
use mathlib.Core.Bool.{Bool, true, false}
use Prim.Native.Nat.{ℕ, zero, suc, ◌+◌, ◌-◌, ◌*◌, ◌≤◌}
use native.Mathlib.Numerals.{unary_clauses}
use native.Mathlib.Omega.{arith}
use native.Mathlib.Nat.{mul-le-mul_left}
use lib.Dec.{lit≤, eqb}
use lib.ListN.{length}
use Rattle.fields.specs.Parse.{Parse, got, fails, when}
use Rattle.coordinates.specs.Coordinates.{places, origin_of}
use Rattle.coordinates.specs.declared.GlobalCoord.{GlobalCoord}
use Rattle.masks.specs.Masks.{mask_bit, ones_from}
use Rattle.masks.proofs.Laws.{length-le, count-le}
use Rattle.forms.specs.declared.Coding.{Coding}
use Rattle.tree.specs.Active.{Piece, edge_of}
use Rattle.tree.specs.Inner.{record_count, leaf_count}
use Rattle.tree.proofs.Counting.{total}
use Rattle.cursor.specs.Inner.{Rest, Stop, after, Onward, for_each, between_roots, in_node5, entered_at, children_of, leaving, leaf_rest, rest4, node4_rest, rest5, roots_rest, from5, from4, to_come}
use Rattle.cursor.specs.declared.Cursor.{Cursor}
use Rattle.cursor.specs.declared.Entered.{Entered}
use Rattle.cursor.proofs.Laws.{to-come0}
use Rattle.skip.proofs.Laws.{records_in, leaves_in}

-- at most b pieces come, wherever topology and blocks go on
abbrev Bounded : Onward → ℕ → Type 0
Bounded k b = (at block : ℕ) → length (k at block).items ≤ b

after-few : {A : Type 0} (m : Parse A) (f : A → ℕ → Rest Stop) (b : ℕ) → ((a : A) (n : ℕ) → length (f a n).items ≤ b) → length (after m f).items ≤ b
unfolding after
after-few (got a n) f b h = h a n
after-few (fails k) f b h = omega arith

when-few : (t : Bool) (x y : Rest Stop) (b : ℕ) → length x.items ≤ b → length y.items ≤ b → length (when t x y).items ≤ b
unfolding when
when-few true x y b h g = h
when-few false x y b h g = g

-- Where each child is at most w pieces, those of a list of children are at most w times as many as it has.
module _ (f : ℕ → Onward → Onward) (w : ℕ) (one : (p : ℕ) (k : Onward) (b : ℕ) → Bounded k b → Bounded (f p k) (w + b)) where
  each-few : (ps : List ℕ) (k : Onward) (b : ℕ) → Bounded k b → Bounded (for_each f ps k) (w * length ps + b)
  unfolding for_each
  each-few [] k b h at block = omega (arith, h at block)
  each-few (p ∷ ps) k b h at block = simp unary_clauses (omega (arith, one p (for_each f ps k) _ (each-few ps k b h) at block))

  children-few : (s : List ℕ) (m n : ℕ) (e : Entered) (k : Onward) (b : ℕ) → Bounded k b → Bounded (children_of s m n f e k) (w * (8 * n) + b)
  unfolding children_of
  children-few s m n e k b h at block =
      let ps = ones_from (mask_bit s e.pos) e.next (8 * n - e.next) in
      let l : length ps ≤ 8 * n = omega (arith, length-le (mask_bit s e.pos) (8 * n - e.next) e.next) in
      when-few _ _ _ _ (omega (arith, mul-le-mul_left w l, each-few ps k b h at block)) (omega arith)

module _ (s : List ℕ) (c : Coding) where
  leaving-few : (level n : ℕ) (origin : GlobalCoord) (node : ℕ) (x : Cursor) (r : Rest Stop) (b : ℕ) → length r.items ≤ b → length (leaving s c level n origin node x r).items ≤ 1 + b
  unfolding leaving
  leaving-few level n origin node x r b h = after-few _ _ _ λ a q. omega (arith, h)

  leaf-few : (left : ℕ) (five : Entered) (origin : GlobalCoord) (node p : ℕ) (k : Onward) (b : ℕ) → Bounded k b → Bounded (leaf_rest s c left five origin node p k) (1 + b)
  unfolding leaf_rest
  leaf-few left five origin node p k b h at block = after-few _ _ _ λ leaf q. after-few _ _ _ λ a r. omega (arith, h q r)

  -- a 4-node's leaves and itself, and a 5-node's 4-nodes and itself
  rest4-few : (left : ℕ) (five four : Entered) (k : Onward) (b : ℕ) → Bounded k b → Bounded (rest4 s c left five four k) (4097 + b)
  unfolding rest4
  rest4-few left five four k b h at block =
      let own : Onward = λ x y. leaving s c 1 512 four.origin four.pos (in_node5 left five x y) (k x y) in
      let each = children-few (leaf_rest s c left five four.origin four.pos) 1 (leaf-few left five four.origin four.pos) s 128 512 four in
      omega (arith, each own (1 + b) (λ x y. leaving-few 1 512 _ _ _ (k x y) b (h x y)) at block)

  node4-few : (left : ℕ) (origin : GlobalCoord) (node p : ℕ) (k : Onward) (b : ℕ) → Bounded k b → Bounded (node4_rest s c left origin node p k) (4097 + b)
  unfolding node4_rest
  node4-few left origin node p k b h at block = after-few _ _ _ λ a q. rest4-few left _ _ k b h q block

  rest5-few : (left : ℕ) (five : Entered) (k : Onward) (b : ℕ) → Bounded k b → Bounded (rest5 s c left five k) (134250497 + b)
  unfolding rest5
  rest5-few left five k b h at block =
      let own : Onward = λ x y. leaving s c 2 4096 five.origin five.pos (between_roots left x y) (k x y) in
      let each = children-few (node4_rest s c left five.origin five.pos) 4097 (node4-few left five.origin five.pos) s 4096 4096 five in
      omega (arith, each own (1 + b) (λ x y. leaving-few 2 4096 _ _ _ (k x y) b (h x y)) at block)

  roots_few : (count : ℕ) → Bounded (roots_rest s c count) (count * 134250497)
  unfolding roots_rest
  roots_few zero at block = omega arith
  roots_few (suc n) at block = after-few _ _ _ λ v p. after-few _ _ _ λ a q. omega (arith, rest5-few n (entered_at (origin_of v) p) (roots_rest s c n) (n * 134250497) (roots_few n) q block)

  pub few-items : (count at block : ℕ) → length (to_come s c (between_roots count at block)).items ≤ count * 134250497
  few-items count at block = rw (to-come0 s c count at block) (roots_few count at block)

  -- from any cursor on: those of the nodes that it stands in, and of the roots that follow
  pub cursor-items : (x : Cursor) → length (to_come s c x).items ≤ (x.roots_left + 2) * 134250497
  unfolding to_come
  cursor-items x =
      let n = x.roots_left in
      let roots : Bounded (roots_rest s c n) (n * 134250497) = roots_few n in
      let five : Bounded (from5 s c n x.node5) (134250497 + n * 134250497) = rest5-few n x.node5 _ _ roots in
      let four : Bounded (from4 s c n x.node5 x.node4) (4097 + (134250497 + n * 134250497)) = rest4-few n x.node5 x.node4 _ _ five in
      when-few _ _ _ _ (omega (arith, roots x.topology_pos x.block_pos))
      (when-few _ _ _ _ (omega (arith, five x.topology_pos x.block_pos)) (omega (arith, four x.topology_pos x.block_pos)))

-- a piece lists at most 32768 records, and is at most one leaf
places-small : (l : ℕ) → places (edge_of l) ≤ 32768
places-small zero = lit≤ tt
places-small (suc zero) = lit≤ tt
places-small (suc (suc zero)) = lit≤ tt
places-small (suc (suc (suc n))) = lit≤ tt

records-small : (s : List ℕ) (q : Piece) → record_count s q ≤ 32768
records-small s q = omega (arith, count-le (mask_bit s q.value) (places (edge_of q.level)), places-small q.level)

leaf-small : (q : Piece) → leaf_count q ≤ 1
unfolding when
leaf-small q = go (eqb q.level 0)
  where
    go : (b : Bool) → when b 1 0 ≤ 1
    go true = lit≤ tt
    go false = lit≤ tt

total-few : {A : Type 0} (w : A → ℕ) (m : ℕ) → ((a : A) → w a ≤ m) → (l : List A) → total w l ≤ m * length l
unfolding total
total-few w m h [] = omega arith
total-few w m h (a ∷ l) = simp unary_clauses (omega (arith, h a, total-few w m h l))

module _ (s : List ℕ) (c : Coding) (count at block : ℕ) where
  abbrev items : List Stop
  items = (to_come s c (between_roots count at block)).items

  pub few-records : records_in s items ≤ count * 134250497 * 32768
  few-records = omega (arith, few-items s c count at block, total-few (λ (t : Stop). record_count s t.piece) 32768 (λ t. records-small s t.piece) items)

  pub few-leaves : leaves_in items ≤ count * 134250497
  few-leaves = omega (arith, few-items s c count at block, total-few (λ (t : Stop). leaf_count t.piece) 1 (λ t. leaf-small t.piece) items)

pub cursor-leaves : (s : List ℕ) (c : Coding) (x : Cursor) → leaves_in (to_come s c x).items ≤ (x.roots_left + 2) * 134250497
cursor-leaves s c x = omega (arith, cursor-items s c x, total-few (λ (t : Stop). leaf_count t.piece) 1 (λ t. leaf-small t.piece) (to_come s c x).items)
