-- The word has a one among the places left, so its zeros before it are fewer than these.
use mathlib.Core.Path.{◌≡◌}
use Prim.Native.Nat.{◌^◌, ◌<◌}
use native.Mathlib.Nat.{lt_of_lt_of_le}
use native.Mathlib.Omega.{arith}
use lib.Count.{count_trailing_zeros}
use lib.Pow.{pow_mono}
use Rattle.bits.specs.Inner.{SumsFit}
use Rattle.bits.specs.declared.Bits.{Bits}
use Rattle.bits.proofs.Laws.{inside-word}
use Rattle.bits.proofs.to_active.Goals as goal

inside : (b : Bits) → SumsFit b × (b.ones < 2 ^ b.left) × (b.ones ≡ 0 → ⊥) → count_trailing_zeros 64 b.ones < b.left
inside b p = inside-word b.left b.ones p.1 (lt_of_lt_of_le p.1 (pow_mono p.0.word)) p.2

small : (b : Bits) → SumsFit b × (b.ones < 2 ^ b.left) × (b.ones ≡ 0 → ⊥) → count_trailing_zeros 64 b.ones < 64
small b p = omega (arith, inside b p, p.0.word)

pub pass-requires : goal.pass-requires
pass-requires c = let p = c.requires in (omega (arith, inside c.args.b p), p.0)

pub overflow_sub-result : goal.overflow_sub-result
overflow_sub-result c = omega (arith, inside _ c.requires)

pub overflow_cast-z : goal.overflow_cast-z
overflow_cast-z c = omega (arith, small _ c.requires)

pub high_bits-requires : goal.high_bits-requires
high_bits-requires c = small _ c.requires

pub overflow_cast-z-2 : goal.overflow_cast-z-2
overflow_cast-z-2 c = omega (arith, small _ c.requires)

pub high_bits-requires-2 : goal.high_bits-requires-2
high_bits-requires-2 c = small _ c.requires

pub returns : goal.returns
returns c =
    let a = c.args in
    rw (c.pass.ensures, c.high_bits.ensures, c.high_bits-2.ensures)
