-- Inner matter: only contracts of inner functions cite it, and nothing here has to be believed.
use Rattle.std.specs.Prelude.{ℕ, List}
use Rattle.fields.specs.Parse.{Parse, then, check}
use Rattle.fields.specs.Fields.{bytes_field}
use Rattle.masks.specs.Masks.{mask_bit, agree}
use Rattle.nodes.specs.Nodes.{old_field}
use Rattle.nodes.specs.declared.Leaf.{Leaf}

-- a leaf's block up to its values
unfoldable pub block_head : List ℕ → ℕ → Leaf → ℕ → Parse Unit
block_head s version leaf at =
    then (bytes_field s 64 at) λ mask p.
    check (agree (mask_bit s mask.start) (mask_bit s leaf.mask) 512) 20
    (old_field s version leaf.origin p)
