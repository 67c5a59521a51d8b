-- The grid is opened, the lengths and the leaves are tested, and then the origins are laid down.
use mathlib.Core.Path.{refl, ap, ◌∙◌}
use lib.ListN.{length}
use Rattle.fields.specs.Answer.{gives}
use Rattle.leaves.proofs.Laws.{handed-on-fill}
use Rattle.leaves.proofs.Tree.{Runs, run-refuses, run-absent, run-gives, run-enough}
use Rattle.origins.specs.Origins.{axes_of, same_lengths, leaf_origins}
use Rattle.origins.specs.Inner.{origin_in}
use Rattle.origins.proofs.Laws.{origins-run, one-length}
use Rattle.origins.proofs.origins_asked.Goals as goal
use Rattle.origins.proofs.origins_asked.Goals.{Start}

-- what is asked for is a run
runs : (a : Start) → let p = a.args in let nx = length p.x.now in let ny = length p.y.now in let nz = length p.z.now in
    Runs p.s.now p.asked p.name.now (same_lengths nx ny nz) p.first nx (λ c. origin_in) axes_of (leaf_origins p.s.now p.asked p.name.now p.first nx ny nz)
runs a = origins-run _ _ _ _ _ _ _

pub returns-then-not-fits : goal.returns-then-not-fits
returns-then-not-fits c = (run-absent (runs (goal.at.returns-then-not-fits c).Start) c.in_ok-g.ensures c.fits.ensures c.if-not-fits.true, refl)

pub origins_run-requires : goal.origins_run-requires
origins_run-requires c =
    let h = run-enough (runs (goal.at.origins_run-requires c).Start) c.in_ok-g.ensures c.fits.ensures c.if-not-fits.false in
    let same = one-length _ _ _ h.0 in
    (h.1, same.0, same.1)

pub returns-in_err-g : goal.returns-in_err-g
returns-in_err-g c = handed-on-fill _ _ _ c.from_residual.ensures.1 (run-refuses (runs (goal.at.returns-in_err-g c).Start) _ c.in_err-g.ensures)

pub returns : goal.returns
returns c =
    (ap gives c.origins_run.ensures ∙ run-gives (runs (goal.at.returns c).Start) c.in_ok-g.ensures c.fits.ensures c.if-not-fits.false, tt)
