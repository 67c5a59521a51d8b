-- Five vectors, one after the other; the first that is not whole ends the reading.
use Rattle.transform.specs.Transform.{scale_field}
use Rattle.fields.proofs.Steps.{read, handed-on}
use Rattle.transform.proofs.read_scale.Goals as goal

pub returns-in_err-scale_values : goal.returns-in_err-scale_values
unfolding scale_field
returns-in_err-scale_values c = handed-on _ _ c.from_residual.ensures.1 (search (read, c.in_err-scale_values.ensures))

pub returns-in_err-voxel_size : goal.returns-in_err-voxel_size
unfolding scale_field
returns-in_err-voxel_size c = handed-on _ _ c.from_residual-in_err-voxel_size.ensures.1 (search (read, c.in_ok-scale_values.ensures, c.in_err-voxel_size.ensures))

pub returns-in_err-scale_values_inverse : goal.returns-in_err-scale_values_inverse
unfolding scale_field
returns-in_err-scale_values_inverse c = handed-on _ _ c.from_residual-in_err-scale_values_inverse.ensures.1 (search (read, c.in_ok-scale_values.ensures, c.in_ok-voxel_size.ensures, c.in_err-scale_values_inverse.ensures) depth 7)

pub returns-in_err-inv_scale_sqr : goal.returns-in_err-inv_scale_sqr
unfolding scale_field
returns-in_err-inv_scale_sqr c = handed-on _ _ c.from_residual-in_err-inv_scale_sqr.ensures.1 (search (read, c.in_ok-scale_values.ensures, c.in_ok-voxel_size.ensures, c.in_ok-scale_values_inverse.ensures, c.in_err-inv_scale_sqr.ensures) depth 8)

pub returns-in_err-inv_twice_scale : goal.returns-in_err-inv_twice_scale
unfolding scale_field
returns-in_err-inv_twice_scale c = handed-on _ _ c.from_residual-in_err-inv_twice_scale.ensures.1 (search (read, c.in_ok-scale_values.ensures, c.in_ok-voxel_size.ensures, c.in_ok-scale_values_inverse.ensures, c.in_ok-inv_scale_sqr.ensures, c.in_err-inv_twice_scale.ensures) depth 9)

pub returns : goal.returns
unfolding scale_field
returns c = search (read, c.in_ok-scale_values.ensures, c.in_ok-voxel_size.ensures, c.in_ok-scale_values_inverse.ensures, c.in_ok-inv_scale_sqr.ensures, c.in_ok-inv_twice_scale.ensures) depth 10
