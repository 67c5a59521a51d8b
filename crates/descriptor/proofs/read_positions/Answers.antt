-- Three positions, one after the other; the first that is refused ends the reading.
use Rattle.fields.proofs.Steps.{read, handed-on}
use Rattle.descriptor.specs.Descriptor.{positions_field}
use Rattle.descriptor.proofs.read_positions.Goals as goal

pub returns-in_err-grid_pos : goal.returns-in_err-grid_pos
unfolding positions_field
returns-in_err-grid_pos c = handed-on _ _ c.from_residual.ensures.1 (search (read, c.in_err-grid_pos.ensures))

pub returns-in_err-block_pos : goal.returns-in_err-block_pos
unfolding positions_field
returns-in_err-block_pos c = handed-on _ _ c.from_residual-in_err-block_pos.ensures.1 (search (read, c.in_ok-grid_pos.ensures, c.in_err-block_pos.ensures))

pub returns-in_err-end_pos : goal.returns-in_err-end_pos
unfolding positions_field
returns-in_err-end_pos c = handed-on _ _ c.from_residual-in_err-end_pos.ensures.1 (search (read, c.in_ok-grid_pos.ensures, c.in_ok-block_pos.ensures, c.in_err-end_pos.ensures) depth 7)

pub returns : goal.returns
unfolding positions_field
returns c = search (read, c.in_ok-grid_pos.ensures, c.in_ok-block_pos.ensures, c.in_ok-end_pos.ensures) depth 7
