-- Laws of the definitions, by which the functions' proofs go.
use mathlib.Core.Path.{◌≡◌, refl, sym, ap, ◌∙◌}
use mathlib.Core.List.{List, [], map}
use mathlib.Core.Bool.{true}
use Rattle.std.proofs.Common.{None, Some}
use Prim.Native.Nat.{ℕ, ◌-◌, ◌≤◌}
use native.Mathlib.Omega.{arith}
use lib.Dec.{eqb}
use lib.ListN.{length}
use Rattle.fields.specs.Parse.{Parse, got, fails, then}
use Rattle.fields.proofs.Laws.{check-passes, through, then-got, then-fails, made_at}
use Rattle.fields.specs.Answer.{Answer, gives, refuses, answer, with}
use Rattle.archive.specs.Archive.{present, file_asked}
use Rattle.archive.specs.declared.AskedFile.{AskedFile}
use Rattle.archive.specs.declared.Asked.{Asked}
use Rattle.fields.proofs.Answers.{with-gives, with-refuses, answer-fails}
use Rattle.header.specs.declared.ArchiveHeader.{ArchiveHeader}
use Rattle.descriptor.specs.declared.GridDescriptor.{GridDescriptor}
use Rattle.forms.specs.declared.Coding.{Coding}
use Rattle.transform.specs.Transform.{transform}
use Rattle.transform.specs.declared.Map.{Map}
use Rattle.fields.specs.Inner.{end_of}
use Rattle.roots.specs.Roots.{tree_head_field}
use Rattle.roots.specs.declared.TreeHead.{TreeHead}
use Rattle.tree.specs.Topology.{Node5, roots_field}
use Rattle.tree.specs.Blocks.{Filled5, blocks_field}
use Rattle.tree.specs.Active.{Piece, pieces, active_list, all_blocks}
use Rattle.tree.specs.Inner.{record_count, leaf_count}
use Rattle.tree.proofs.Counting.{total, total-map, active-count, leaves-count}
use Rattle.cursor.specs.Inner.{Rest, Stop, between_roots, to_come}
use Rattle.cursor.specs.declared.Cursor.{Cursor}
use Rattle.cursor.proofs.Whole.{blocks-there, blocks-refused}
use Rattle.skip.specs.Inner.{Skip, before, ended, refused, skip_from}
use Rattle.skip.proofs.Laws.{records_in, leaves_in, skip-refused, skip-ended}
use Rattle.skip.proofs.Few.{few-records, few-leaves}
use Rattle.place.proofs.Places.{after_none}
use Rattle.grid.specs.Grid.{Grid, is_float_tree, coding_of, root_limit, content_field, grid_field, grid, place_after, opened_of, open_grid}
use Rattle.grid.specs.Inner.{content_of, content_with, read_tree, read_grid, look, opened_by}
use Rattle.grid.specs.declared.Content.{Content}

-- more records, and more leaves, than any tree has
abbrev pub most : ℕ
most = 18446744073709551615

-- what is told by the answer of passing all pieces
abbrev pub counted : (ℕ → ℕ → Content) → Skip → Answer Content
counted f (before t n k) = refuses 2
counted f (ended n k) = gives (f (most - n) (most - k))
counted f (refused j) = refuses j

-- A tree whose topology was read: all its pieces are passed, and what is left of `most` tells its records and leaves; or the block that is refused is.
module _ (s : List ℕ) (c : Coding) (count at block : ℕ) (few : count ≤ 256) {roots : List Node5} {end : ℕ} (d : got roots end ≡ roots_field s c count [] at) where
  abbrev all : Rest Stop
  all = to_come s c (between_roots count at block)

  abbrev passes : Skip
  passes = skip_from s c most most (between_roots count at block)

  few-all : (records_in s all.items ≤ most) × (leaves_in all.items ≤ most)
  few-all = (omega (arith, few-records s c count at block), omega (arith, few-leaves s c count at block))

  blocks-refuse : {j : ℕ} → fails j ≡ blocks_field s c roots block → refused j ≡ passes
  blocks-refuse {j} e = rw (blocks-refused s c count [] at block d e) (sym (skip-refused s all.items most most j few-all.0 few-all.1))

  blocks-count :
      {filled : List Filled5} {past : ℕ} → got filled past ≡ blocks_field s c roots block →
      (ended (most - length (active_list s c filled)) (most - length (all_blocks filled)) ≡ passes) × (length (active_list s c filled) ≤ most) × (length (all_blocks filled) ≤ most)
  blocks-count {filled} e =
      let w = blocks-there s c count [] at block d e in
      let p : map (λ t. t.piece) all.items ≡ pieces filled = ap (λ (r : Rest Piece). r.items) w in
      let r : all.refusal ≡ None = ap (λ (r : Rest Piece). r.refusal) w in
      let n : records_in s all.items ≡ length (active_list s c filled)
      = sym (total-map (record_count s) (λ t. t.piece) all.items) ∙ ap (total (record_count s)) p ∙ sym (active-count s c filled) in
      let k : leaves_in all.items ≡ length (all_blocks filled)
      = sym (total-map leaf_count (λ t. t.piece) all.items) ∙ ap (total leaf_count) p ∙ sym (leaves-count filled) in
      (rw (r, ← n, ← k) (sym (skip-ended s all.items most most few-all.0 few-all.1)), omega (arith, n, few-all.0), omega (arith, k, few-all.1))

  tree-counted : (f : ℕ → ℕ → Content) →
      counted f passes ≡ answer (then (blocks_field s c roots block) (λ filled v. got (f (length (active_list s c filled)) (length (all_blocks filled))) v))
  unfolding then answer
  tree-counted f = go (blocks_field s c roots block) refl
    where
      go : (m : Parse (List Filled5)) → m ≡ blocks_field s c roots block →
          counted f passes ≡ answer (then m (λ filled v. got (f (length (active_list s c filled)) (length (all_blocks filled))) v))
      go (got filled v) e =
          let b = blocks-count e in
          let n : most - (most - length (active_list s c filled)) ≡ length (active_list s c filled) = omega (arith, b.1) in
          let k : most - (most - length (all_blocks filled)) ≡ length (all_blocks filled) = omega (arith, b.2) in
          ap (counted f) (sym b.0) ∙ (λ i. gives (f (n i) (k i)))
      go (fails j) e = ap (counted f) (sym (blocks-refuse e))

-- a parse whose end is refused
end_short : {A : Type 0} (m : Parse A) {k : ℕ} → fails k ≡ end_of m → fails k ≡ m
unfolding end_of then
end_short (got a n) e = let z : ◌≡◌ {A = ℕ} 0 1 = cc in absurd (omega arith)
end_short (fails j) e = cc

-- and one whose end is read
end_back : {A : Type 0} (m : Parse A) {n : ℕ} → got tt n ≡ end_of m → (a : A) × (got a n ≡ m)
unfolding end_of then
end_back (got a n) e = (a, cc)
end_back (fails j) e = let z : ◌≡◌ {A = ℕ} 0 1 = cc in absurd (omega arith)

-- The ways out of a tree: its topology is refused, or is passed and then all pieces are.
module _ (s : List ℕ) (h : ArchiveHeader) (d : GridDescriptor) (map : Map) (end : ℕ) (head : TreeHead) (at : ℕ) {c : Coding} (e : c ≡ coding_of h d head) where
  pub tree-short : {k : ℕ} → fails k ≡ end_of (roots_field s c head.root_count [] at) → refuses k ≡ answer (read_tree s h d map end head at)
  unfolding read_tree
  tree-short x = answer-fails (then-fails _ (rw e at (end_short _ x)))

  pub tree-passed : {t : ℕ} {x : Cursor} {r : Skip} → head.root_count ≤ 256 → got tt t ≡ end_of (roots_field s c head.root_count [] at) →
      x ≡ between_roots head.root_count at d.block_pos → r ≡ skip_from s c most most x → counted (content_with h d map end head t) r ≡ answer (read_tree s h d map end head at)
  unfolding read_tree
  tree-passed {t} {x} {r} few y z u =
      let o : got tt t ≡ end_of (roots_field s (coding_of h d head) head.root_count [] at) = rw e at y in
      let b = end_back _ o in
      let v : r ≡ skip_from s (coding_of h d head) most most (between_roots head.root_count at d.block_pos) = rw (e, z) at u in
      ap (counted (content_with h d map end head t)) v
      ∙ tree-counted s (coding_of h d head) head.root_count at d.block_pos few b.1 (content_with h d map end head t)
      ∙ ap answer (then-got _ b.1 refl)

-- Where the descriptor's checks pass, transform, what stands before the roots, and the tree give the grid's content.
pub content-parts :
    (s : List ℕ) (h : ArchiveHeader) (d : GridDescriptor) → true ≡ is_float_tree d.kind → true ≡ eqb d.instance_parent.len 0 →
    then (transform s d.tree_pos) (λ map p. then (tree_head_field s root_limit p) (λ head q. read_tree s h d map p head q)) ≡ read_grid s h d
unfolding read_grid grid_field content_field read_tree
content-parts s h d a b =
    (through _ _ _ _ λ map p e. through _ _ _ _ λ head q e. through _ _ _ _ λ roots r e. made_at _ _ _ _ λ filled v e. refl)
    ∙ ap (λ (m : Parse Grid). then m (λ g n. got (content_of s g) n)) (check-passes 12 a (check-passes 13 b refl))

-- the place after no record is made of what a grid's content has
pub opened-so : (s : List ℕ) (g : Grid) → opened_of s g ≡ opened_by (content_of s g)
unfolding place_after
opened-so s g = rw (after_none s _)

-- the ways out of a grid that is looked for
module _ (s : List ℕ) (asked : Asked) (name : List ℕ) where
  pub file-refused : (k : ℕ) → refuses k ≡ file_asked s asked name → refuses k ≡ look s asked name
  unfolding look grid
  file-refused k e = with-refuses _ (with-refuses _ e)

  module _ (o : AskedFile) (e : gives o ≡ file_asked s asked name) where
    pub grid-absent : o.grid ≡ None → refuses 11 ≡ look s asked name
    unfolding look grid present
    grid-absent x = with-refuses _ (with-gives _ e (with-refuses _ (ap present (sym x))))

    pub grid-found : (d : GridDescriptor) → o.grid ≡ Some d → answer (read_grid s o.header d) ≡ look s asked name
    unfolding look read_grid grid present with answer then
    grid-found d x = rw (← e, x) (go (grid_field s o.header d))
      where
        go : (m : Parse Grid) → answer (then m (λ g n. got (content_of s g) n)) ≡ with (answer m) (λ g. gives (content_of s g))
        go (got g n) = refl
        go (fails k) = refl

  -- opening a grid hands out what is found when looking for it
  pub open-refuses : (k : ℕ) → refuses k ≡ look s asked name → refuses k ≡ open_grid s asked name
  unfolding look open_grid with
  open-refuses k = go (grid s asked name)
    where
      go : (m : Answer Grid) → refuses k ≡ with m (λ g. gives (content_of s g)) → refuses k ≡ with m (λ g. gives (opened_of s g))
      go (gives g) e = cc
      go (refuses j) e = cc

  pub open_gives : (c : Content) → gives c ≡ look s asked name → gives (opened_by c) ≡ open_grid s asked name
  unfolding look open_grid with
  open_gives c = go (grid s asked name)
    where
      go : (m : Answer Grid) → gives c ≡ with m (λ g. gives (content_of s g)) → gives (opened_by c) ≡ with m (λ g. gives (opened_of s g))
      go (gives g) e =
          let x : c ≡ content_of s g = cc in
          ap (λ (c : Content). gives (opened_by c)) x ∙ ap gives (sym (opened-so s g))
      go (refuses j) e = cc
