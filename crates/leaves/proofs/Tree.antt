-- The leaves that a cursor hands out from the start on are the tree's; a run of these is what a fill, and any call that lays out leaves, answers.
use mathlib.Core.Path.{◌≡◌, refl, sym, ap, subst, ◌∙◌}
use mathlib.Core.List.{List, [], ◌∷◌, ◌++◌, map, map-append, append-nil, flat_map}
use mathlib.Core.Bool.{Bool, true, false, ◌&&◌}
use Rattle.std.proofs.Common.{Option, None, Some, slice_get}
use Prim.Native.Nat.{ℕ, zero, suc, ◌-◌, ◌/◌, ◌%◌}
use native.Mathlib.Omega.{arith}
use lib.Dec.{eqb, leb}
use lib.ListN.{length, take, drop, length-map}
use borrow.Author.Tests.{le-leb, lt-leb, leb-true, eqb-true}
use Rattle.fields.specs.Parse.{when}
use Rattle.fields.proofs.Laws.{when_true, when_false}
use Rattle.fields.specs.Answer.{Answer, gives, refuses, with}
use Rattle.archive.specs.declared.Asked.{Asked}
use Rattle.fields.proofs.Answers.{with-gives, with-back, gives_same}
use Rattle.coordinates.proofs.Axis.{and_both}
use Rattle.values.specs.Values.{leaf_values}
use Rattle.forms.specs.declared.Coding.{Coding}
use Rattle.nodes.specs.declared.Block.{Block}
use Rattle.tree.specs.Blocks.{Filled4, Filled5}
use Rattle.tree.specs.Active.{Piece, leaf_piece, piece4, piece5, pieces4, pieces5, pieces, all_blocks}
use Rattle.cursor.specs.Inner.{Rest, Stop, to_come}
use Rattle.cursor.proofs.Whole.{fresh, whole}
use Rattle.grid.specs.Grid.{Grid, grid, start_of, opened_of, open_grid}
use Rattle.grid.specs.declared.OpenedGrid.{OpenedGrid}
use Rattle.grid.specs.Inner.{content_of, opened_by}
use Rattle.grid.proofs.Laws.{opened-so}
use Rattle.grid.proofs.Coverage.{GridRead, grid-read}
use Rattle.leaves.specs.Leaves.{leaf_numbered, present_leaf, fill_leaf, run_values, fill_leaves}
use Rattle.leaves.specs.Inner.{right_slots, start_cursor, leaves_among, leaves_from, from_leaves, values_in, HasLeaves}

-- the leaves among pieces
abbrev leaves_of : List Piece → List Piece
leaves_of [] = []
leaves_of (q ∷ l) = when (eqb q.level 0) (q ∷ leaves_of l) (leaves_of l)

of-stops : (ts : List Stop) → leaves_among ts ≡ leaves_of (map (λ t. t.piece) ts)
unfolding leaves_among
of-stops [] = refl
of-stops (t ∷ ts) = rw (of-stops ts)

of-append : (l m : List Piece) → leaves_of (l ++ m) ≡ leaves_of l ++ leaves_of m
unfolding when
of-append [] m = refl
of-append (q ∷ l) m = go (eqb q.level 0) (of-append l m)
  where
    go : (t : Bool) → leaves_of (l ++ m) ≡ leaves_of l ++ leaves_of m → when t (q ∷ leaves_of (l ++ m)) (leaves_of (l ++ m)) ≡ when t (q ∷ leaves_of l) (leaves_of l) ++ leaves_of m
    go true e = ap (λ (x : List Piece). q ∷ x) e
    go false e = e

of-leaves : (bs : List Block) → leaves_of (map leaf_piece bs) ≡ map leaf_piece bs
unfolding when
of-leaves [] = refl
of-leaves (b ∷ bs) = ap (λ (x : List Piece). leaf_piece b ∷ x) (of-leaves bs)

of-flat_map : {A : Type 0} (f : A → List Piece) (g : A → List Block) → ((a : A) → leaves_of (f a) ≡ map leaf_piece (g a)) → (l : List A) → leaves_of (flat_map f l) ≡ map leaf_piece (flat_map g l)
unfolding flat_map
of-flat_map f g h [] = refl
of-flat_map f g h (a ∷ l) = of-append (f a) (flat_map f l) ∙ (λ i. h a i ++ of-flat_map f g h l i) ∙ sym (map-append leaf_piece (g a) (flat_map g l))

-- a node among them is none
with-node : (l : List Piece) (q : Piece) (bs : List Block) → eqb q.level 0 ≡ false → leaves_of l ≡ map leaf_piece bs → leaves_of (l ++ q ∷ []) ≡ map leaf_piece bs
unfolding when
with-node l q bs n e = of-append l (q ∷ []) ∙ rw (n, append-nil, e)

of_tree : (filled : List Filled5) → leaves_of (pieces filled) ≡ map leaf_piece (all_blocks filled)
unfolding pieces pieces4 pieces5 all_blocks
of_tree filled =
    of-flat_map pieces5 (λ f. flat_map (λ g. g.blocks) f.nodes) (λ (f : Filled5). with-node (flat_map pieces4 f.nodes) (piece5 f.node) (flat_map (λ g. g.blocks) f.nodes) refl
    (of-flat_map pieces4 (λ g. g.blocks) (λ (g : Filled4). with-node (map leaf_piece g.blocks) (piece4 g.node) g.blocks refl (of-leaves g.blocks)) f.nodes)) filled

-- what n of them give, but for the first ones
of-run :
    {A : Type 0} (f : Piece → List A) (bs : List Block) (first n : ℕ) →
    from_leaves f (map leaf_piece bs) first n ≡ flat_map (λ b. f (leaf_piece b)) (take n (drop first bs))
unfolding flat_map
of-run f [] zero zero = refl
of-run f [] zero (suc n) = refl
of-run f [] (suc k) zero = refl
of-run f [] (suc k) (suc n) = refl
of-run f (b ∷ bs) zero zero = refl
of-run f (b ∷ bs) zero (suc n) = ap (λ (x : List _). f (leaf_piece b) ++ x) (of-run f bs zero n)
of-run f (b ∷ bs) (suc k) n = of-run f bs k n

-- the leaves of an opened grid, from its start on
of-grid : (s : List ℕ) (g : Grid) → GridRead s g → leaves_from s g.coding (start_cursor (start_of s g)) ≡ map leaf_piece (all_blocks g.filled)
of-grid s g h =
    ap (leaves_from s g.coding) (sym h.start)
    ∙ of-stops (to_come s g.coding (fresh h.parsed)).items ∙ ap (λ (r : Rest Piece). leaves_of r.items) (whole h.parsed) ∙ of_tree g.filled

-- A single leaf is a run of one.
one-run :
    (f : Block → List ℕ) (bs : List Block) (k : ℕ) →
    with (present_leaf (slice_get bs k)) (λ b. gives (f b)) ≡ when (leb 1 (length bs - k)) (gives (flat_map f (take 1 (drop k bs)))) (refuses 21)
unfolding present_leaf with when flat_map
one-run f [] k = rw (lt-leb 1 (0 - k) (omega arith))
one-run f (b ∷ bs) zero = rw (le-leb 1 (suc (length bs) - 0) (omega arith), append-nil)
one-run f (b ∷ bs) (suc k) =
    let e : suc (length bs) - suc k ≡ length bs - k = omega arith in
    rw e (one-run f bs k)

no-leaf : (o : Option Block) → ◌≡◌ {A = Answer (List ℕ)} (with (present_leaf o) (λ b. refuses 21)) (refuses 21)
unfolding present_leaf with
no-leaf None = refl
no-leaf (Some b) = refl

-- What a run of leaves answers: over the grid that is asked for, check 21, and then what n of its leaves give, but for the first ones, in the form w.
abbrev pub running : {A B : Type 0} → List ℕ → Asked → List ℕ → Bool → ℕ → ℕ → (Coding → Piece → List A) → (List A → B) → Answer B
running s asked name right first n f w =
    with (grid s asked name) λ g.
    when (right && leb n (length (all_blocks g.filled) - first)) (gives (w (flat_map (λ b. f g.coding (leaf_piece b)) (take n (drop first (all_blocks g.filled)))))) (refuses 21)

pub record Runs {A B : Type 0} (s : List ℕ) (asked : Asked) (name : List ℕ) (right : Bool) (first n : ℕ) (f : Coding → Piece → List A) (w : List A → B) (m : Answer B) : Type 0 where
  pub is : m ≡ running s asked name right first n f w

-- Its ways out.
module _
    {A B : Type 0} {s : List ℕ} {asked : Asked} {name : List ℕ} {right : Bool} {first n : ℕ} {f : Coding → Piece → List A} {w : List A → B} {m : Answer B}
    (r : Runs s asked name right first n f w m)
  where
    pub run-refuses : (k : ℕ) → refuses k ≡ open_grid s asked name → refuses k ≡ m
    unfolding open_grid with
    run-refuses k e = go (grid s asked name) _ e ∙ sym r.is
      where
        go : (m : Answer Grid) (h : Grid → Answer B) → refuses k ≡ with m (λ g. gives (opened_of s g)) → refuses k ≡ with m h
        go (gives g) h e = cc
        go (refuses j) h e = cc

    module _ {o : OpenedGrid} (e : gives o ≡ open_grid s asked name) {t : Bool} (l : t ≡ (right && leb n (o.leaf_count - first))) where
      seen : (g : Grid) × (gives g ≡ grid s asked name) × (o ≡ opened_by (content_of s g))
      unfolding open_grid
      seen = let y = with-back (grid s asked name) _ e in (y.0, y.1, gives_same y.2 ∙ opened-so s y.0)

      abbrev read : GridRead s seen.0
      read = grid-read s asked name seen.1

      counted : t ≡ (right && leb n (length (all_blocks seen.0.filled) - first))
      counted = l ∙ ap (λ (o : OpenedGrid). right && leb n (o.leaf_count - first)) seen.2

      pub run-absent : t ≡ false → refuses 21 ≡ m
      run-absent x = with-gives _ seen.1 (when_false _ (sym x ∙ counted) refl) ∙ sym r.is

      -- what these leaves give from the start on
      abbrev given_by : OpenedGrid → B
      given_by o = w (from_leaves (f o.place.start.coding) (leaves_from s o.place.start.coding (start_cursor o.place.start)) first n)

      pub run-gives : t ≡ true → gives (given_by o) ≡ m
      run-gives x =
          with-gives _ seen.1 (when_true _ (sym x ∙ counted)
          (ap (λ (o : OpenedGrid). gives (given_by o)) seen.2
          ∙ ap (λ (v : List A). gives (w v)) (ap (λ (l : List Piece). from_leaves (f seen.0.coding) l first n) (of-grid s seen.0 read)
          ∙ of-run (f seen.0.coding) (all_blocks seen.0.filled) first n))) ∙ sym r.is

      -- and what was tested: what is lent is right, and the leaves are there
      pub run-enough : t ≡ true → (right ≡ true) × HasLeaves s o.place.start first n
      run-enough x =
          let b = and_both _ _ (sym counted ∙ x) in
          let k : length (leaves_from s seen.0.coding (start_cursor (start_of s seen.0))) ≡ length (all_blocks seen.0.filled) = ap length (of-grid s seen.0 read) ∙ length-map (all_blocks seen.0.filled) leaf_piece in
          (b.0, subst (λ (o : OpenedGrid). HasLeaves s o.place.start first n) (sym seen.2) (record { width = read.width; few = read.few; there = rw k (leb-true _ _ b.1) }))

-- what is asked for of a fill: a leaf, or a run of leaves
abbrev pub filling : List ℕ → Asked → List ℕ → Bool → ℕ → ℕ → Answer (List ℕ)
filling s asked name single first slots = when single (fill_leaf s asked name first slots) (fill_leaves s asked name first slots)

-- Each is a run.
module _ (s : List ℕ) (asked : Asked) (name : List ℕ) (single : Bool) (first slots : ℕ) where
  pub fill-runs : Runs s asked name (right_slots single slots) first (slots / 512) (values_in s) (λ v. v) (filling s asked name single first slots)
  unfolding fill_leaf fill_leaves when
  fill-runs = record { is = go single }
    where
      one : (g : Grid) (t : Bool) → eqb slots 512 ≡ t →
          with (present_leaf (leaf_numbered first g.filled)) (λ b. when t (gives (leaf_values s g.coding b.mask b.values)) (refuses 21))
          ≡ when (t && leb (slots / 512) (length (all_blocks g.filled) - first)) (gives (run_values s g first (slots / 512))) (refuses 21)
      one g true e = rw (eqb-true slots 512 e) (one-run (λ b. leaf_values s g.coding b.mask b.values) (all_blocks g.filled) first)
      one g false e = no-leaf _

      go : (b : Bool) → filling s asked name b first slots ≡ with (grid s asked name) (λ g.
          when (right_slots b slots && leb (slots / 512) (length (all_blocks g.filled) - first)) (gives (run_values s g first (slots / 512))) (refuses 21))
      go true = ap (with (grid s asked name)) (λ i g. one g (eqb slots 512) refl i)
      go false = refl

-- the slots of both are those of whole leaves
pub whole-slots : (single : Bool) (slots : ℕ) → right_slots single slots ≡ true → slots % 512 ≡ 0
unfolding when
whole-slots true slots h = let x = eqb-true slots 512 h in omega arith
whole-slots false slots h = eqb-true (slots % 512) 0 h
