-- What any cursor hands out, step by step: the end, or a refusal, or one piece that can be read from and then what the cursor behind it hands out.
use mathlib.Core.Path.{◌≡◌, refl, sym, ap, ◌∙◌, subst}
use mathlib.Core.List.{List, []}
use mathlib.Core.Bool.{Bool, true, false}
use Rattle.std.specs.Prelude.{Option, None, Some}
use Prim.Native.Nat.{ℕ, zero, suc, ◌<◌}
use native.Mathlib.Omega.{arith}
use lib.Dec.{lit≤}
use lib.ListN.{length, get_or, drop}
use Rattle.fields.specs.Parse.{Parse, got, fails, when}
use Rattle.fields.specs.Answer.{Answer, gives, refuses}
use Rattle.fields.proofs.Laws.{Always, then-always, check-always, got-always}
use Rattle.coordinates.specs.Coordinates.{index, aligned}
use Rattle.coordinates.specs.declared.GlobalCoord.{GlobalCoord}
use Rattle.coordinates.specs.declared.Index.{Index}
use Rattle.coordinates.proofs.Laws.{child-aligned}
use Rattle.half.specs.Inner.{IsWidth}
use Rattle.masks.specs.Masks.{mask_bit}
use Rattle.runs.specs.Runs.{is_stored}
use Rattle.forms.specs.declared.Coding.{Coding}
use Rattle.runs.proofs.Laws.{node-active, leaf-active}
use Rattle.nodes.specs.Nodes.{block_field}
use Rattle.nodes.specs.declared.Leaf.{Leaf}
use Rattle.nodes.proofs.Laws.{node-back, block_back}
use Rattle.tree.specs.Topology.{leaf_field}
use Rattle.tree.specs.Active.{Piece}
use Rattle.cursor.specs.Inner.{Rest, Stop, only, refused_by, stop, after, Onward, HeldPiece, beyond, next_child}
use Rattle.cursor.specs.Inner.{children_of, leaving, leaf_rest, rest4, node4_rest, rest5, roots_rest, from5, from4, to_come}
use Rattle.cursor.specs.declared.Entered.{Entered}
use Rattle.cursor.specs.declared.Cursor.{Cursor}
use Rattle.cursor.proofs.Laws.{next-origin, children-refused, children-none, children-some, to-come0, to-come5, to-come4}

pub data Step (s : List ℕ) (c : Coding) : Rest Stop → Type 0 where
  ended : Step s c (only [])
  refused : (k : ℕ) → Step s c (refused_by k)
  one : {q : Piece} {x : Cursor} {r : Rest Stop} → HeldPiece s c q → r ≡ to_come s c x → Step s c (stop q x r)

module _ (s : List ℕ) (c : Coding) (wide : IsWidth c.width) where
  -- an active place of a leaf's block is stored
  block-kept : (l : Leaf) (at p : ℕ) → Always (λ b e. mask_bit s b.mask p ≡ true → is_stored s b.values.stored b.mask b.mask p ≡ true) (block_field s c l at)
  unfolding block_field
  block-kept l at p =
      then-always _ _ _ λ m q e. check-always _ _ _ _ λ ok. then-always _ _ _ λ u q f. then-always _ _ _ λ v r g. got-always _ _ _
      (leaf-active c s 64 m.start m.start q p g)

  after-step : {A : Type 0} (m : Parse A) (f : A → ℕ → Rest Stop) → Always (λ a n. Step s c (f a n)) m → Step s c (after m f)
  unfolding after
  after-step (got a n) f h = h a n refl
  after-step (fails k) f h = refused k

  when-step : (b : Bool) (x y : Rest Stop) → (b ≡ true → Step s c x) → (b ≡ false → Step s c y) → Step s c (when b x y)
  unfolding when
  when-step true x y h g = h refl
  when-step false x y h g = g refl

  -- in a node: its next child, or else itself; the words are a node's then, and its origin a multiple
  children-step :
      (m n : ℕ) (f : ℕ → Onward → Onward) (w : Entered) (k : Onward) (at block : ℕ) →
      (aligned m w.origin ≡ true → (q : ℕ) → Step s c (f q (children_of s m n f (beyond w.origin w.pos q) k) at block)) →
      (aligned m w.origin ≡ true → Step s c (k at block)) → Step s c (children_of s m n f w k at block)
  children-step m n f w k at block child own = go (next_child s m n w) refl
    where
      go : (x : Answer (Option Index)) → x ≡ next_child s m n w → Step s c (children_of s m n f w k at block)
      go (refuses j) e = subst (Step s c) (children-refused s m n f w k at block e) (refused j)
      go (gives None) e = subst (Step s c) (children-none s m n f w k at block e) (own (next-origin s m n w e))
      go (gives (Some q)) e = subst (Step s c) (children-some s m n f w k at block e) (child (next-origin s m n w e) q.0)

  leaf-step :
      (left : ℕ) (five : Entered) (o : GlobalCoord) (node : ℕ) → aligned 128 o ≡ true → (p at block : ℕ) →
      Step s c (leaf_rest s c left five o node p (from4 s c left five (beyond o node p)) at block)
  unfolding leaf_rest leaf_field
  leaf-step left five o node a p at block =
      after-step _ _ (then-always _ _ _ λ mask q d. got-always _ _ _ (after-step _ _ λ b r e.
      let h = block_back s c _ block b r e in
      let multiple = subst (λ (o : GlobalCoord). aligned 8 o ≡ true) (sym h.origin) (child-aligned 16 8 o (index p) (lit≤ tt) (lit≤ tt) a) in
      one (record { held = h.held wide; multiple = multiple; kept = λ p l. block-kept _ block p b r e; leaf = λ z. refl })
      (sym (to-come4 s c left q r five (beyond o node p)))))

  from4-step : (left : ℕ) (five four : Entered) (at block : ℕ) → Step s c (from4 s c left five four at block)
  unfolding rest4 leaving
  from4-step left five four at block =
      children-step 128 512 _ four _ at block (λ a q. leaf-step left five four.origin four.pos a q at block)
      (λ a. after-step _ _ λ h e d.
      let b = node-back 512 s c _ refl (lit≤ tt) h e d in
      one (record { held = b.held wide; multiple = a; kept = λ p l. node-active _ s 512 _ _ p b.apart l; leaf = λ z. absurd (omega arith) }) (sym (to-come5 s c left at block five)))

  from5-step : (left : ℕ) (five : Entered) (at block : ℕ) → Step s c (from5 s c left five at block)
  unfolding rest5 node4_rest leaving
  from5-step left five at block =
      children-step 4096 4096 _ five _ at block (λ a q. after-step _ _ λ h p d. from4-step left (beyond five.origin five.pos q) _ p block)
      (λ a. after-step _ _ λ h e d.
      let b = node-back 4096 s c _ refl (lit≤ tt) h e d in
      one (record { held = b.held wide; multiple = a; kept = λ p l. node-active _ s 4096 _ _ p b.apart l; leaf = λ z. absurd (omega arith) }) (sym (to-come0 s c left at block)))

  roots-step : (left at block : ℕ) → Step s c (roots_rest s c left at block)
  unfolding roots_rest
  roots-step zero at block = ended
  roots-step (suc left) at block = after-step _ _ λ v p d. after-step _ _ λ h q e. from5-step left _ q block

  pub to-come-step : (x : Cursor) → Step s c (to_come s c x)
  unfolding to_come
  to-come-step x =
      when-step _ _ _ (λ e. roots-step _ _ _) (λ e. when-step _ _ _ (λ e. from5-step _ _ _ _) (λ e. from4-step _ _ _ _ _))

  -- So the first piece can be read from, and what follows it is what the cursor behind it hands out.
  pub follows : (x : Cursor) {q : Piece} {y : Cursor} {r : Rest Stop} → stop q y r ≡ to_come s c x → HeldPiece s c q × (r ≡ to_come s c y)
  follows x {q} {y} {r} e = go (to_come s c x) (to-come-step x) e
    where
      go : (z : Rest Stop) → Step s c z → stop q y r ≡ z → HeldPiece s c q × (r ≡ to_come s c y)
      go z ended e =
          let l = ap (λ (z : Rest Stop). length z.items) e in
          absurd (omega arith)
      go z (refused k) e =
          let l = ap (λ (z : Rest Stop). length z.items) e in
          absurd (omega arith)
      go z (one {q = p} {x = w} {r = u} h d) e =
          let t : Stop = record { piece = p; behind = w } in
          let a : ◌≡◌ {A = Stop} (record { piece = q; behind = y }) t = ap (λ (z : Rest Stop). get_or z.items 0 t) e in
          let l : r.items ≡ u.items = ap (λ (z : Rest Stop). drop 1 z.items) e in
          let m : r.refusal ≡ u.refusal = ap (λ (z : Rest Stop). z.refusal) e in
          let f : r ≡ u = λ i. record { items = l i; refusal = m i } in
          (subst (λ (t : Stop). HeldPiece s c t.piece) (sym a) h, f ∙ d ∙ ap (λ (t : Stop). to_come s c t.behind) (sym a))

-- a loop over the cursor ends: behind a piece, less is to come
pub fewer : {q : Piece} {y : Cursor} {r z : Rest Stop} → stop q y r ≡ z → length r.items < length z.items
fewer e = omega (arith, ap (λ (z : Rest Stop). length z.items) e)
