-- The cursor between roots, with two of its words changed.
use mathlib.Core.Path.{ap}
use Rattle.cursor.specs.declared.Cursor.{Cursor}
use Rattle.cursor.specs.declared.Entered.{Entered}
use Rattle.skip.proofs.in_node5.Goals as goal

abbrev entering : Entered → Cursor → Cursor
entering w x = record { depth = 1; roots_left = x.roots_left; node5 = w; node4 = x.node4; topology_pos = x.topology_pos; block_pos = x.block_pos }

pub returns : goal.returns
returns c = ap (entering _) c.between_roots-y.ensures
