-- Both calls have the coding that was given.
use mathlib.Core.List.{List}
use mathlib.Core.Path.{◌≡◌, sym, subst}
use Prim.Native.Nat.{ℕ}
use native.Mathlib.Omega.{arith}
use Rattle.forms.specs.declared.Coding.{Coding}
use Rattle.cursor.specs.declared.Cursor.{Cursor}
use Rattle.slots.specs.declared.Inside.{Inside}
use Rattle.slots.specs.Slots.{Slots}
use Rattle.place.specs.declared.Stand.{Stand}
use Rattle.place.specs.Inner.{hand_on, HandedOn}
use Rattle.place.proofs.hand_on.Goals as goal

-- a coding with the width that it has is the same coding
with-width :
    (c : Coding) (n : ℕ) → n ≡ c.width → (s : List ℕ) (limit : ℕ) (x : Cursor) (w : Inside) {t t' : Slots} {r : Stand} →
    HandedOn (hand_on s (record { version = c.version; flags = c.flags; width = n; background = c.background }) limit x w) t t' r → HandedOn (hand_on s c limit x w) t t' r
with-width c n e s limit x w {t} {t'} {r} h =
    subst (λ (k : ℕ). HandedOn (hand_on s (record { version = c.version; flags = c.flags; width = k; background = c.background }) limit x w) t t' r) e h

pub returns-then-c-eq2 : goal.returns-then-c-eq2
returns-then-c-eq2 c =
    with-width c.args.c 2 (sym c.if-c-eq2.true) _ _ _ _ c.hand_pieces.ensures

pub returns : goal.returns
returns c =
    with-width c.args.c 4 (omega (arith, c.if-c-eq2.false, c.requires.0)) _ _ _ _ c.hand_pieces-2.ensures
