-- `coordinates::offset_to_local_coord` meets its contract: dividing by the side twice is dividing by the side's square.
use native.Mathlib.Nat.{div-div-eq-div-mul}
use Rattle.coordinates.specs.Coordinates.{local_of}
use Rattle.coordinates.proofs.offset_to_local_coord.Goals as goal

pub returns : goal.returns
unfolding local_of
returns c = rw div-div-eq-div-mul
