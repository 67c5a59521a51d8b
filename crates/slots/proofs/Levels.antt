-- What a level says of a piece. There are three.
use mathlib.Core.Path.{◌≡◌, refl}
use Prim.Native.Nat.{ℕ, zero, suc, ◌*◌, ◌%◌, ◌≤◌, ◌<◌}
use native.Mathlib.Omega.{arith}
use lib.Dec.{lit<, lit≤}
use Rattle.tree.specs.Active.{edge_of}
use Rattle.coordinates.specs.Coordinates.{places}
use Rattle.slots.specs.Inner.{mask_bytes}

-- masks are whole words, and have a bit for each place
pub record Masked (l : ℕ) : Type 0 where
  pub words : mask_bytes l % 8 ≡ 0
  pub small : mask_bytes l ≤ 4096
  pub bits : 8 * mask_bytes l ≡ places (edge_of l)

pub masked : (l : ℕ) → Masked l
masked zero = record { words = refl; small = lit≤ tt; bits = refl }
masked (suc zero) = record { words = refl; small = lit≤ tt; bits = refl }
masked (suc (suc zero)) = record { words = refl; small = lit≤ tt; bits = refl }
masked (suc (suc (suc n))) = record { words = refl; small = lit≤ tt; bits = refl }

pub level-small : (l p : ℕ) → p < 8 * mask_bytes l → l < 3
level-small zero p h = lit< tt
level-small (suc zero) p h = lit< tt
level-small (suc (suc zero)) p h = lit< tt
level-small (suc (suc (suc n))) p h = absurd (omega arith)
