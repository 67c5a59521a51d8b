-- From 222 on nothing stands there; else the origin is read and compared, and the count of buffers follows.
use mathlib.Core.Path.{refl, ap, ◌∙◌}
use native.Mathlib.Omega.{arith}
use Rattle.fields.proofs.Laws.{then-got, then-fails}
use Rattle.fields.proofs.Steps.{steps, handed-on-end, check-yes, check-no, check-eq, check-ne, when-lt}
use Rattle.coordinates.specs.Coordinates.{same_coord}
use Rattle.nodes.specs.Nodes.{leaf_buffers_field, old_field}
use Rattle.nodes.proofs.read_old.Goals as goal

pub returns-then-version-ge222 : goal.returns-then-version-ge222
unfolding old_field
returns-then-version-ge222 c = search steps

pub returns-in_err-v : goal.returns-in_err-v
unfolding old_field
returns-in_err-v c = handed-on-end _ _ c.from_residual.ensures.1 (search (steps, c.in_err-v.ensures))

pub returns-then-not-same_coord : goal.returns-then-not-same_coord
unfolding old_field
returns-then-not-same_coord c =
    when-lt _ _ _ c.if-version-ge222.false
    (then-got _ c.in_ok-v.ensures
    (check-no _ (c.same_coord.ensures ∙ ap (λ o. same_coord o c.args.origin) c.origin_of.ensures) c.if-not-same_coord.true))

pub returns-in_err-buffers : goal.returns-in_err-buffers
unfolding old_field leaf_buffers_field
returns-in_err-buffers c =
    handed-on-end _ _ c.from_residual-in_err-buffers.ensures.1
    (when-lt _ _ _ c.if-version-ge222.false
    (then-got _ c.in_ok-v.ensures
    (check-yes _ (c.same_coord.ensures ∙ ap (λ o. same_coord o c.args.origin) c.origin_of.ensures) c.if-not-same_coord.false
    (then-fails _ c.in_err-buffers.ensures))))

pub returns-then-buffers-ne1 : goal.returns-then-buffers-ne1
unfolding old_field leaf_buffers_field
returns-then-buffers-ne1 c =
    when-lt _ _ _ c.if-version-ge222.false
    (then-got _ c.in_ok-v.ensures
    (check-yes _ (c.same_coord.ensures ∙ ap (λ o. same_coord o c.args.origin) c.origin_of.ensures) c.if-not-same_coord.false
    (then-got _ c.in_ok-buffers.ensures
    (check-ne _ _ _ (omega arith)))))

pub returns : goal.returns
unfolding old_field leaf_buffers_field
returns c =
    when-lt _ _ _ c.if-version-ge222.false
    (then-got _ c.in_ok-v.ensures
    (check-yes _ (c.same_coord.ensures ∙ ap (λ o. same_coord o c.args.origin) c.origin_of.ensures) c.if-not-same_coord.false
    (then-got _ c.in_ok-buffers.ensures
    (check-eq _ _ _ (omega arith) refl))))
