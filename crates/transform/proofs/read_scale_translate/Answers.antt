-- The translation is read first, and then the five vectors that both maps have.
use Rattle.transform.specs.Transform.{scale_translate_field}
use Rattle.fields.proofs.Steps.{read, handed-on}
use Rattle.transform.proofs.read_scale_translate.Goals as goal

pub returns-in_err-translation : goal.returns-in_err-translation
unfolding scale_translate_field
returns-in_err-translation c = handed-on _ _ c.from_residual.ensures.1 (search (read, c.in_err-translation.ensures))

pub returns-in_err-v : goal.returns-in_err-v
unfolding scale_translate_field
returns-in_err-v c = handed-on _ _ c.from_residual-in_err-v.ensures.1 (search (read, c.in_ok-translation.ensures, c.in_err-v.ensures))

pub returns : goal.returns
unfolding scale_translate_field
returns c = search (read, c.in_ok-translation.ensures, c.in_ok-v.ensures) depth 7
