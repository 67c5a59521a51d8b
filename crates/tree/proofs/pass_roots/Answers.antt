-- The next root is refused, by its origin or its nodes, or passed; where none is left, the end is that of all.
use mathlib.Core.Path.{◌≡◌, refl, ◌∙◌}
use Prim.Native.Nat.{◌-◌}
use native.Mathlib.Numerals.{add-one}
use native.Mathlib.Omega.{arith}
use lib.Seq.{take-suc-set}
use lib.ListN.{take, length-set}
use Rattle.fields.proofs.Steps.{handed-on-end}
use Rattle.tree.proofs.Passing.{roots-none, origin-fails, node-fails, roots-more}
use Rattle.tree.proofs.pass_roots.Goals as goal

pub loop-i-init : goal.loop-i-init
loop-i-init c = let e : c.args.count - 0 ≡ c.args.count = omega arith in (refl, rw e)

pub returns-in_err-o : goal.returns-in_err-o
returns-in_err-o c =
    handed-on-end _ _ c.from_residual.ensures.1
    (origin-fails _ _ c.loop-i.i c.args.count _ _ (omega arith) c.in_err-o.ensures ∙ c.loop-i.invariant.1)

pub pass_node5-requires : goal.pass_node5-requires
pass_node5-requires c = c.requires.0

pub returns-in_err-end : goal.returns-in_err-end
returns-in_err-end c =
    handed-on-end _ _ c.from_residual-in_err-end.ensures.1
    (node-fails _ _ c.loop-i.i c.args.count _ (take c.loop-i.i c.loop-i.origins) (omega arith) c.in_ok-o.ensures (c.in_err-end.ensures _)
    ∙ c.loop-i.invariant.1)

pub loop-i-preserved : goal.loop-i-preserved
loop-i-preserved c = (
  simp length-set (omega arith),
  roots-more _ _ c.loop-i.i c.args.count _ (take c.loop-i.i c.loop-i.origins) (omega arith) c.in_ok-o.ensures _
      (rw (add-one c.loop-i.i) (take-suc-set c.loop-i.origins c.loop-i.i _ (omega arith)))
      (c.in_ok-end.ensures _)
      ∙ c.loop-i.invariant.1,
)

pub returns : goal.returns
returns c = roots-none _ _ c.loop-i.i c.args.count _ _ (omega arith) ∙ c.loop-i.invariant.1
