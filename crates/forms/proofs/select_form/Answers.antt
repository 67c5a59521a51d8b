-- Each byte has its row of the table; above 6 it is refused.
use borrow.Author.Tests.{lt-leb}
use Prim.Native.Nat.{◌<◌}
use native.Mathlib.Omega.{arith}
use Rattle.fields.specs.Parse.{check}
use Rattle.forms.specs.Forms.{form_selected}
use Rattle.forms.proofs.select_form.Goals as goal

pub returns-in-0 : goal.returns-in-0
unfolding form_selected check
returns-in-0 c = rw c.in-0.is

pub returns-in-1 : goal.returns-in-1
unfolding form_selected check
returns-in-1 c = rw c.in-1.is

pub returns-in-2 : goal.returns-in-2
unfolding form_selected check
returns-in-2 c = rw c.in-2.is

pub returns-in-3 : goal.returns-in-3
unfolding form_selected check
returns-in-3 c = rw c.in-3.is

pub returns-in-4 : goal.returns-in-4
unfolding form_selected check
returns-in-4 c = rw c.in-4.is

pub returns-in-5 : goal.returns-in-5
unfolding form_selected check
returns-in-5 c = rw c.in-5.is

pub returns-in-6 : goal.returns-in-6
unfolding form_selected check
returns-in-6 c = rw c.in-6.is

pub returns-in-7-to-255 : goal.returns-in-7-to-255
unfolding form_selected check
returns-in-7-to-255 c = let k : 6 < c.args.b = omega arith in rw (lt-leb _ 6 k)
