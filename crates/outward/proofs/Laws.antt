-- Laws of the definitions, by which the functions' proofs go.
use mathlib.Core.Path.{◌≡◌, sym, ◌∙◌}
use mathlib.Core.List.{List, ◌++◌, append_assoc}
use Prim.Native.Nat.{ℕ, suc, ◌+◌, ◌≤◌, ◌<◌}
use native.Mathlib.Numerals.{add-one}
use native.Mathlib.Omega.{arith}
use lib.ListN.{length, take, set}
use lib.Seq.{take_all, take-suc-set}
use Rattle.outward.specs.Outward.{table}

-- the 26 words behind the first six: one more is written, or all are
module _ (f : ℕ → ℕ) (head out : List ℕ) (i : ℕ) where
  pub table_more :
      (v : ℕ) → i < 26 → length out ≡ 32 → take (6 + i) out ≡ head ++ table f i → v ≡ f i → take (6 + (i + 1)) (set out (6 + i) v) ≡ head ++ table f (i + 1)
  unfolding table
  table_more v l n e x =
      let k : 6 + (i + 1) ≡ suc (6 + i) = omega arith in
      let h : 6 + i < length out = omega arith in
      rw (k, take-suc-set out (6 + i) v h, e, x, add-one i, append_assoc)

  pub table-all : 26 ≤ i → i ≤ 26 → length out ≡ 32 → take (6 + i) out ≡ head ++ table f i → out ≡ head ++ table f 26
  table-all l h n e =
      let k : i ≡ 26 = omega arith in
      sym (take_all 32 out (omega arith)) ∙ (rw k at e)
