-- Each smaller number comes back from its word.
use mathlib.Core.List.{[], ◌∷◌}
use Rattle.words.specs.Words.{start_by}
use Rattle.words.proofs.start_words.Goals as goal

pub returns : goal.returns
unfolding start_by
returns c =
    let t = c.args.t in
    let version = c.word.ensures in
    let flags = c.word-2.ensures in
    let background = c.word-3.ensures in
    let tiles = c.word-4.ensures in
    let roots = c.word-5.ensures in (
      λ i.
          version.0 i ∷ flags.0 i ∷ t.coding.width ∷ background.0 i ∷ t.tiles_pos ∷ tiles.0 i ∷ t.roots_pos ∷ roots.0 i ∷ t.block_pos ∷ t.length ∷ [],
      λ i. record {
        coding = record { version = version.1 i; flags = flags.1 i; width = t.coding.width; background = background.1 i };
        tiles_pos = t.tiles_pos;
        tile_count = tiles.1 i;
        roots_pos = t.roots_pos;
        root_count = roots.1 i;
        block_pos = t.block_pos;
        length = t.length;
      },
    )
