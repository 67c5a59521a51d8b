-- Section 6: the leaf blocks stand in a row from the block position on, in the order in which the topology has the leaves. They are laid into the tree.
use Rattle.std.specs.Prelude.{ℕ, List}
use Rattle.fields.specs.Parse.{Parse, got, then, many}
use Rattle.forms.specs.declared.Coding.{Coding}
use Rattle.nodes.specs.Nodes.{block_field}
use Rattle.nodes.specs.declared.Block.{Block}
use Rattle.tree.specs.Topology.{Node4, Node5}

-- a 4-node with its leaves' blocks, and a 5-node with its 4-nodes so
pub record Filled4 : Type 0 where
  pub node : Node4
  pub blocks : List Block

pub record Filled5 : Type 0 where
  pub node : Node5
  pub nodes : List Filled4

unfoldable pub filled4 : List ℕ → Coding → Node4 → ℕ → Parse Filled4
filled4 s c n at =
    then (many (block_field s c) n.leaves at) λ bs p.
    got (record { node = n; blocks = bs }) p

unfoldable pub filled5 : List ℕ → Coding → Node5 → ℕ → Parse Filled5
filled5 s c n at =
    then (many (filled4 s c) n.nodes at) λ fs p.
    got (record { node = n; nodes = fs }) p

abbrev pub blocks_field : List ℕ → Coding → List Node5 → ℕ → Parse (List Filled5)
blocks_field s c roots at = many (filled5 s c) roots at
