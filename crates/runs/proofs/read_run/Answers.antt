-- The number, and behind it the values, one field, at most as long as a 5-node's of 4-byte values.
use mathlib.Core.Path.{refl}
use Prim.Native.Nat.{◌≤◌}
use native.Mathlib.Nat.{mul-le-mul}
use native.Mathlib.Omega.{arith}
use Rattle.fields.proofs.Steps.{read, handed-on}
use Rattle.runs.specs.Runs.{run_field}
use Rattle.runs.proofs.Laws.{count_small}
use Rattle.runs.proofs.read_run.Goals as goal

pub overflow_mul-bytes : goal.overflow_mul-bytes
overflow_mul-bytes c =
    let few : c.count_of-count.result ≤ 32768 = rw c.count_of-count.ensures (count_small _ _ c.requires.0.small) in omega (arith, mul-le-mul few c.requires.2.1)

pub read_number-requires : goal.read_number-requires
read_number-requires c =
    let few : c.count_of-count.result ≤ 32768 = rw c.count_of-count.ensures (count_small _ _ c.requires.0.small) in (few, c.requires.2, refl)

pub returns-in_err-p : goal.returns-in_err-p
unfolding run_field
returns-in_err-p c = rw (← c.count_of-count.ensures) (handed-on _ _ c.from_residual.ensures.1 (search (read, c.in_err-p.ensures)))

pub returns : goal.returns
unfolding run_field
returns c = rw (← c.count_of-count.ensures) (search (read, c.in_ok-p.ensures))
