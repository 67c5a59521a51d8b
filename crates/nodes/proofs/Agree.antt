-- What the parses of a node and of a leaf's block read: two files that are the same there give the same.
use mathlib.Core.Path.{ap}
use mathlib.Core.Bool.{not}
use mathlib.Core.List.{List}
use Prim.Native.Nat.{ℕ}
use Rattle.fields.proofs.Agree.{Reads, reads, Tells, got-tells, then-tells, then-plain, check-tells, part-tells, keep, SameFor}
use Rattle.coordinates.specs.declared.GlobalCoord.{GlobalCoord}
use Rattle.masks.proofs.Agree.{overlap-same, agree_same}
use Rattle.forms.specs.declared.Coding.{Coding}
use Rattle.forms.specs.declared.Stored.TheVariants.{Every, Childless}
use Rattle.runs.proofs.Agree.{SameValues, values-tells}
use Rattle.nodes.specs.Nodes.{node_field, leaf_buffers_field, old_field, block_field}
use Rattle.nodes.specs.declared.NodeHeader.{NodeHeader}
use Rattle.nodes.specs.declared.Leaf.{Leaf}
use Rattle.nodes.specs.declared.Block.{Block}

-- what the readers of a node's places look at is the same in both files, a leaf's mask is, and what the readers of its block look at
abbrev pub SameNode : List ℕ → List ℕ → Coding → ℕ → NodeHeader → Type 0
SameNode s t c n h = SameValues s t c n h.child h.value h.values

abbrev pub SameLeaf : List ℕ → List ℕ → Leaf → Type 0
SameLeaf s t l = SameFor s t 64 l.mask

abbrev pub SameBlock : List ℕ → List ℕ → Coding → Block → Type 0
SameBlock s t c b = SameValues s t c 64 b.mask b.mask b.values

pub node-tells : {s t : List ℕ} {lo at : ℕ} (n : ℕ) (c : Coding) → Tells s t lo at (SameNode s t c n) (node_field s c n at) (node_field t c n at)
unfolding node_field
node-tells {s} {t} n c =
    then-tells (part-tells n) λ child p e x. then-tells (part-tells n) λ value q f y.
    check-tells 18 (λ l h. ap not (overlap-same n (keep f x l h) (y l h)))
    (then-tells (values-tells c Childless n _ _ (keep f x) y) λ v r g z. got-tells (SameNode s t c n) z)

pub old-reads : {s t : List ℕ} {lo at : ℕ} (version : ℕ) (origin : GlobalCoord) → Reads s t lo at (old_field s version origin at) (old_field t version origin at)
unfolding old_field leaf_buffers_field
old-reads version origin = search reads depth 7

pub block-tells :
    {s t : List ℕ} {lo at : ℕ} (c : Coding) (leaf : Leaf) → SameLeaf s t leaf → Tells s t lo at (SameBlock s t c) (block_field s c leaf at) (block_field t c leaf at)
unfolding block_field
block-tells {s} {t} c leaf k =
    then-tells (part-tells 64) λ mask p e x. check-tells 20 (λ l h. agree_same 64 (x l h) k)
    (then-plain (old-reads _ _) λ u q f. then-tells (values-tells c Every 64 _ _ (keep f x) (keep f x)) λ v r g y. got-tells (SameBlock s t c) y)
