-- The name is compared with four names, one after the other, in the definition's order.
use Rattle.fields.proofs.Steps.{steps}
use Rattle.transform.specs.Transform.{map_kind}
use Rattle.transform.proofs.map_kind.Goals.{then-same_bytes-via-then-same_bytes, then-same_bytes-via-else-same_bytes+then-same_bytes-2}
use Rattle.transform.proofs.map_kind.Goals.{then-same_bytes-3-via-then-same_bytes-3, then-same_bytes-3-via-else-same_bytes-3+then-same_bytes-4}
use Rattle.transform.proofs.map_kind.Goals as goal

pub returns-then-same_bytes : goal.returns-then-same_bytes
unfolding map_kind
returns-then-same_bytes c =
    elim c.then-same_bytes.branch [
      | then-same_bytes-via-then-same_bytes w ↦ search steps
      | then-same_bytes-via-else-same_bytes+then-same_bytes-2 w ↦ search steps
    ]

pub returns-then-same_bytes-3 : goal.returns-then-same_bytes-3
unfolding map_kind
returns-then-same_bytes-3 c =
    elim c.then-same_bytes-3.branch [
      | then-same_bytes-3-via-then-same_bytes-3 w ↦ search steps depth 7
      | then-same_bytes-3-via-else-same_bytes-3+then-same_bytes-4 w ↦ search steps depth 7
    ]

pub returns : goal.returns
unfolding map_kind
returns c = search steps depth 7
