-- A word that is the same on both sides carries the answer on by eight bytes.
use native.Mathlib.Omega.{arith}
use mathlib.Core.Path.{◌≡◌, ◌∙◌}
use Prim.Native.Nat.{◌+◌, ◌*◌}
use Rattle.fields.proofs.Words.{same_word}
use Rattle.fields.proofs.same_words.Goals as goal

pub loop-k-preserved : goal.loop-k-preserved
loop-k-preserved c =
    let a = c.args in
    let k = c.loop-k.k in
    let next : 8 * (k + 1) ≡ 8 * k + 8 = omega arith in
    rw next (same_word a.a.now a.b.now (λ i. (c.type_inv.a i).fits) (λ i. (c.type_inv.b i).fits) (omega arith) (8 * k) (omega arith) (cc) ∙ c.loop-k.invariant)
