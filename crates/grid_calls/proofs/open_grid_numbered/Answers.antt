-- The transform's doubles of a grid that was opened lie in the file.
use mathlib.Core.List.{[]}
use Rattle.archive.specs.declared.Asked.TheVariants as A
use Rattle.fields.proofs.Laws.{told}
use Rattle.fields.specs.Says.{says_answer}
use Rattle.outward.proofs.Doubles.{opened-held}
use Rattle.grid_calls.proofs.open_grid_numbered.Goals as goal

pub lay_grid-requires : goal.lay_grid-requires
lay_grid-requires c g e = opened-held c.args.s.now (A.ByNumber c.args.n) [] g (told says_answer e c.open_grid_numbered.ensures)

pub returns : goal.returns
returns c = rw c.open_grid_numbered.ensures at c.lay_grid.ensures
