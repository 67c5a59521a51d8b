-- The transform's doubles of a grid that was opened lie in the file.
use Rattle.archive.specs.declared.Asked.TheVariants as A
use Rattle.fields.proofs.Laws.{told}
use Rattle.fields.specs.Says.{says_answer}
use Rattle.outward.proofs.Doubles.{opened-held}
use Rattle.grid_calls.proofs.open_grid_named.Goals as goal

pub lay_grid-requires : goal.lay_grid-requires
lay_grid-requires c g e = opened-held c.args.s.now A.ByName c.args.name.now g (told says_answer e c.open_grid_named.ensures)

pub returns : goal.returns
returns c = rw c.open_grid_named.ensures at c.lay_grid.ensures
