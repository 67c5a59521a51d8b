-- Each step is one law of `are_normal`, by what is known of the next half.
use mathlib.Core.Path.{◌≡◌, sym, ap, ◌∙◌}
use Prim.Native.Nat.{◌+◌, ◌*◌}
use native.Mathlib.Omega.{arith}
use Rattle.fields.specs.Le.{u16_at}
use Rattle.half.specs.Inner.{is_normal}
use Rattle.half.proofs.Laws.{normal-none, normal-next}
use Rattle.half.proofs.are_normal.Goals as goal
use Rattle.half.proofs.are_normal.Goals.{After-is_normal, then-not-is_normal, else-not-is_normal}

-- what is known of the next half
next : (c : After-is_normal) → let a = c.args in c.is_normal.result ≡ is_normal (u16_at a.s.now (a.at + c.loop-k.k * 2))
next c = c.is_normal.ensures ∙ ap is_normal c.u16_at.ensures

pub loop-k-init : goal.loop-k-init
loop-k-init c = normal-none _ _

pub loop-k-preserved : goal.loop-k-preserved
loop-k-preserved c =
    let n = next (goal.at.loop-k-preserved c).After-is_normal in
    elim c.if-not-is_normal.branch [
      | then-not-is_normal w ↦ w.all-is ∙ normal-next _ _ _ (sym w.if-not-is_normal.true ∙ n) c.loop-k.invariant
      | else-not-is_normal w ↦ w.all-is ∙ normal-next _ _ _ (sym w.if-not-is_normal.false ∙ n) c.loop-k.invariant
    ]

pub returns : goal.returns
returns c = let e : c.loop-k.k ≡ 64 = omega arith in rw e at c.loop-k.invariant
