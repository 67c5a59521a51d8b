-- The two nodes and each smaller number come back from their words.
use mathlib.Core.List.{[], ◌∷◌, ◌++◌}
use Rattle.words.specs.Words.{cursor_by, entered_words}
use Rattle.words.proofs.cursor_words.Goals as goal

pub returns : goal.returns
unfolding cursor_by
returns c =
    let x = c.args.c in
    let n = c.entered_words.ensures in
    let m = c.entered_words-2.ensures in
    let depth = c.word.ensures in
    let left = c.word-2.ensures in
    let node5 = rw n.0 at n.1 in
    let node4 = rw m.0 at m.1 in
    rw (c.copy_from_slice.ensures.after, n.0, c.copy_from_slice-2.ensures.after, m.0) (
      λ i. depth.0 i ∷ left.0 i ∷ entered_words x.node5 ++ entered_words x.node4 ++ x.topology_pos ∷ x.block_pos ∷ [],
      λ i. record {
        depth = depth.1 i;
        roots_left = left.1 i;
        node5 = node5 i;
        node4 = node4 i;
        topology_pos = x.topology_pos;
        block_pos = x.block_pos;
      },
    )
