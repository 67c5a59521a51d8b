-- Each kind is one case of the definition: its vectors are whole or not, and no map is check 14.
use Rattle.fields.proofs.Steps.{read, handed-on}
use Rattle.transform.specs.Transform.{map_field}
use Rattle.transform.proofs.Laws.{of-kind}
use Rattle.transform.proofs.read_map.Goals as goal

pub returns-in_err-v-in-Scale : goal.returns-in_err-v-in-Scale
unfolding map_field
returns-in_err-v-in-Scale c = of-kind _ _ c.in-Scale.is (handed-on _ _ c.from_residual.ensures.1 (search (read, c.in_err-v-in-Scale.ensures)))

pub returns-in_ok-v-in-Scale : goal.returns-in_ok-v-in-Scale
unfolding map_field
returns-in_ok-v-in-Scale c = of-kind _ _ c.in-Scale.is (search (read, c.in_ok-v-in-Scale.ensures))

pub returns-in_err-v-in-ScaleTranslate : goal.returns-in_err-v-in-ScaleTranslate
unfolding map_field
returns-in_err-v-in-ScaleTranslate c = of-kind _ _ c.in-ScaleTranslate.is (handed-on _ _ c.from_residual-in_err-v-in-ScaleTranslate.ensures.1 (search (read, c.in_err-v-in-ScaleTranslate.ensures)))

pub returns-in_ok-v-in-ScaleTranslate : goal.returns-in_ok-v-in-ScaleTranslate
unfolding map_field
returns-in_ok-v-in-ScaleTranslate c = of-kind _ _ c.in-ScaleTranslate.is (search (read, c.in_ok-v-in-ScaleTranslate.ensures))

pub returns-in-Other : goal.returns-in-Other
unfolding map_field
returns-in-Other c = search of-kind
