-- The next child is passed or refused; where there is none, the end is that of all.
use borrow.Author.Rules.{rules}
use native.Mathlib.Omega.{arith}
use mathlib.Core.Path.{refl, sym, ◌∙◌}
use Rattle.fields.proofs.Steps.{handed-on-end}
use Rattle.masks.specs.Masks.{mask_bit}
use Rattle.masks.proofs.Laws.{next-lt, next-from}
use Rattle.tree.proofs.Passing.{ones_none, ones-more, ones-fails}
use Rattle.tree.proofs.pass_nodes.Goals as goal

pub loop-p-init : goal.loop-p-init
loop-p-init c = (search rules, λ o. refl)

pub next_one-requires : goal.next_one-requires
next_one-requires c = (c.requires.1, c.loop-p.invariant.0)

pub pass_node4-requires : goal.pass_node4-requires
pass_node4-requires c = c.requires.0

pub returns-in_err-end : goal.returns-in_err-end
returns-in_err-end c o =
    handed-on-end _ _ c.from_residual.ensures.1
    (ones-fails _ (mask_bit c.args.s.now c.args.child) 32768 _ _ c.in-Some.ensures (c.in_err-end.ensures _)
    ∙ c.loop-p.invariant.1 o)

pub overflow_add-from : goal.overflow_add-from
overflow_add-from c = omega (arith, next-lt (mask_bit c.args.s.now c.args.child) 32768 _ _ (sym c.in-Some.ensures))

pub loop-p-smaller : goal.loop-p-smaller
loop-p-smaller c =
    let next = sym c.in-Some.ensures in
    omega (arith, next-lt (mask_bit c.args.s.now c.args.child) 32768 _ _ next, next-from (mask_bit c.args.s.now c.args.child) 32768 _ _ next)

pub loop-p-preserved : goal.loop-p-preserved
loop-p-preserved c = (
  omega (arith, next-lt (mask_bit c.args.s.now c.args.child) 32768 _ _ (sym c.in-Some.ensures)),
  λ o.
      ones-more _ (mask_bit c.args.s.now c.args.child) 32768 _ _ c.in-Some.ensures (c.in_ok-end.ensures _)
      ∙ c.loop-p.invariant.1 o,
)

pub returns : goal.returns
returns c o =
    ones_none _ (mask_bit c.args.s.now c.args.child) 32768 c.loop-p.from _ c.in_default.ensures ∙ c.loop-p.invariant.1 o
