-- The derived comparison goes axis by axis, as the definition does.
use Rattle.coordinates.specs.Coordinates.{same_coord}
use Rattle.coordinates.proofs.Same.{int_eq-same}
use Rattle.coordinates.proofs.same_coord.Goals as goal

pub returns : goal.returns
unfolding same_coord
returns c = rw (← int_eq-same c.args.a.0 c.args.b.0, ← int_eq-same c.args.a.1 c.args.b.1, ← int_eq-same c.args.a.2 c.args.b.2) c.eq.ensures
