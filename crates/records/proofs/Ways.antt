-- What the tests say by which a word is handed out: that it is full, or a leaf's.
use mathlib.Core.Path.{◌≡◌}
use mathlib.Core.Bool.{true}
use Prim.Native.Nat.{ℕ, ◌+◌, ◌≤◌}
use borrow.Author.Tests.{leb-true, eqb-true}
use Rattle.coordinates.proofs.Axis.{and_both}
use Rattle.bits.specs.Inner.{LeafWord}
use Rattle.records.specs.Inner.{is_full, is_leaf}
use Rattle.bits.specs.declared.Bits.{Bits}

-- What a full word has.
pub full-there : (b : Bits) (room slot limit : ℕ) → is_full b room slot limit ≡ true → (b.ones ≡ 18446744073709551615) × (slot + 64 ≤ limit) × (b.inside.number + 64 ≤ room)
unfolding is_full
full-there b room slot limit e =
    let a = and_both _ _ e in
    let d = and_both _ _ a.1 in
    (eqb-true _ _ a.0, leb-true _ _ d.0, leb-true _ _ d.1)

-- What a leaf's word has.
pub leaf-there : (b : Bits) (room : ℕ) → is_leaf b room ≡ true → LeafWord room b
unfolding is_leaf
leaf-there b room e =
    let a = and_both _ _ e in
    let d = and_both _ _ a.1 in
    record { level = eqb-true _ _ a.0; stored = leb-true _ _ d.0; values = leb-true _ _ d.1 }
