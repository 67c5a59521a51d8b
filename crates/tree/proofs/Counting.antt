-- What the pieces of a tree count: the records of its active list, and its leaves.
use mathlib.Core.Path.{◌≡◌, refl, sym, ◌∙◌}
use mathlib.Core.List.{List, [], ◌∷◌, ◌++◌, map, flat_map}
use Prim.Native.Nat.{ℕ, ◌+◌}
use native.Mathlib.Omega.{arith}
use lib.ListN.{length, length-append, length-map}
use Rattle.fields.specs.Parse.{when}
use Rattle.forms.specs.declared.Coding.{Coding}
use Rattle.nodes.specs.declared.Block.{Block}
use Rattle.tree.specs.Blocks.{Filled4, Filled5}
use Rattle.tree.specs.Active.{leaf_piece, pieces4, pieces5, pieces, records_of, active_list, all_blocks}
use Rattle.tree.specs.Inner.{record_count, leaf_count}

-- A sum over a list; of a list of lists, the lengths' sum is the length.
unfoldable pub total : {A : Type 0} → (A → ℕ) → List A → ℕ
total w [] = 0
total w (a ∷ rest) = w a + total w rest

pub total-append : {A : Type 0} (w : A → ℕ) (x y : List A) → total w (x ++ y) ≡ total w x + total w y
unfolding total
total-append w [] y = omega arith
total-append w (a ∷ x) y = omega (arith, total-append w x y)

total-same : {A : Type 0} (u w : A → ℕ) → ((a : A) → u a ≡ w a) → (l : List A) → total u l ≡ total w l
unfolding total
total-same u w h [] = refl
total-same u w h (a ∷ rest) = rw (h a, total-same u w h rest)

module _ {A B : Type 0} where
  pub length-flat_map : (f : A → List B) (l : List A) → length (flat_map f l) ≡ total (λ a. length (f a)) l
  unfolding flat_map total
  length-flat_map f [] = refl
  length-flat_map f (a ∷ rest) = rw (length-append, length-flat_map f rest)

  pub total-map : (w : B → ℕ) (f : A → B) (l : List A) → total w (map f l) ≡ total (λ a. w (f a)) l
  unfolding total
  total-map w f [] = refl
  total-map w f (a ∷ rest) = rw (total-map w f rest)

  pub total-flat_map : (w : B → ℕ) (f : A → List B) (l : List A) → total w (flat_map f l) ≡ total (λ a. total w (f a)) l
  unfolding flat_map total
  total-flat_map w f [] = refl
  total-flat_map w f (a ∷ rest) = rw (total-append w (f a) (flat_map f rest), total-flat_map w f rest)

-- A piece lists as many records as it counts.
pub active-count : (s : List ℕ) (c : Coding) (filled : List Filled5) → length (active_list s c filled) ≡ total (record_count s) (pieces filled)
unfolding records_of
active-count s c filled = length-flat_map (records_of s c) (pieces filled) ∙ simp length-map

-- A leaf counts as one, and a node as none.
leaves-one : (bs : List Block) → length bs ≡ total leaf_count (map leaf_piece bs)
unfolding total when
leaves-one [] = refl
leaves-one (b ∷ rest) = omega (arith, leaves-one rest)

leaves4 : (f : Filled4) → length f.blocks ≡ total leaf_count (pieces4 f)
unfolding pieces4 total when
leaves4 f = rw total-append (omega (arith, leaves-one f.blocks))

leaves5 : (f : Filled5) → length (flat_map (λ g. g.blocks) f.nodes) ≡ total leaf_count (pieces5 f)
unfolding pieces5 total when
leaves5 f =
    rw total-append
    (omega (arith, length-flat_map (λ g. g.blocks) f.nodes, total-same _ _ leaves4 f.nodes, total-flat_map leaf_count pieces4 f.nodes))

pub leaves-count : (filled : List Filled5) → length (all_blocks filled) ≡ total leaf_count (pieces filled)
unfolding all_blocks pieces
leaves-count filled =
    length-flat_map (λ f. flat_map (λ g. g.blocks) f.nodes) filled ∙ total-same _ _ leaves5 filled ∙ sym (total-flat_map leaf_count pieces5 filled)
