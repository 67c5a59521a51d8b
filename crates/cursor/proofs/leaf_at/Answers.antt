-- Each way out is one law of a leaf: its mask is not whole, its block is refused, or it is the next piece.
use lib.Dec.{lit≤}
use mathlib.Core.Path.{refl}
use Rattle.nodes.proofs.Laws.{whole-mask}
use Rattle.cursor.proofs.Laws.{handed-piece, leaf-short, leaf-refused, leaf-there}
use Rattle.cursor.proofs.leaf_at.Goals as goal

pub returns-in_err-mask : goal.returns-in_err-mask
returns-in_err-mask c = handed-piece _ _ _ _ c.from_residual.ensures.1 (leaf-short _ _ _ _ _ _ _ _ _ c.in_err-mask.ensures)

pub read_block-requires : goal.read_block-requires
read_block-requires c = (whole-mask _ _ 64 refl (lit≤ tt) c.in_ok-mask.ensures, c.requires.0)

pub returns-in_err-b : goal.returns-in_err-b
returns-in_err-b c =
    handed-piece _ _ _ _ c.from_residual-in_err-b.ensures.1
    (leaf-refused _ _ _ _ _ _ _ _ _ c.in_ok-mask.ensures c.offset_to_global_coord.ensures.0 c.in_err-b.ensures)

pub returns : goal.returns
returns c = leaf-there _ _ _ _ _ _ _ _ _ c.in_ok-mask.ensures c.offset_to_global_coord.ensures.0 c.in_ok-b.ensures c.leaf_piece.ensures
