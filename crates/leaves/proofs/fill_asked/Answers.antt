-- The grid is opened, the slots and the leaves are tested, and then the run is filled.
use mathlib.Core.Path.{refl, ap, ◌∙◌}
use Prim.Native.Nat.{◌/◌}
use lib.ListN.{length}
use Rattle.fields.specs.Answer.{gives}
use Rattle.leaves.specs.Inner.{right_slots, values_in}
use Rattle.leaves.proofs.Laws.{handed-on-fill}
use Rattle.leaves.proofs.Tree.{Runs, run-refuses, run-absent, run-gives, run-enough, filling, fill-runs, whole-slots}
use Rattle.leaves.proofs.fill_asked.Goals as goal
use Rattle.leaves.proofs.fill_asked.Goals.{Start}

-- what is asked for is a run
runs : (a : Start) → let p = a.args in
    Runs p.s.now p.asked p.name.now (right_slots p.single (length p.slots.now)) p.first (length p.slots.now / 512) (values_in p.s.now) (λ v. v)
    (filling p.s.now p.asked p.name.now p.single p.first (length p.slots.now))
runs a = fill-runs _ _ _ _ _ _

pub returns-then-not-fits : goal.returns-then-not-fits
returns-then-not-fits c = (run-absent (runs (goal.at.returns-then-not-fits c).Start) c.in_ok-g.ensures c.fits.ensures c.if-not-fits.true, refl)

pub fill_run-requires : goal.fill_run-requires
fill_run-requires c =
    let h = run-enough (runs (goal.at.fill_run-requires c).Start) c.in_ok-g.ensures c.fits.ensures c.if-not-fits.false in
    (h.1, whole-slots _ _ h.0)

pub returns-in_err-g : goal.returns-in_err-g
returns-in_err-g c = handed-on-fill _ _ _ c.from_residual.ensures.1 (run-refuses (runs (goal.at.returns-in_err-g c).Start) _ c.in_err-g.ensures)

pub returns : goal.returns
returns c =
    (ap gives c.fill_run.ensures ∙ run-gives (runs (goal.at.returns c).Start) c.in_ok-g.ensures c.fits.ensures c.if-not-fits.false, tt)
