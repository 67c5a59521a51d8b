-- Handing out may be cut: what m and then k slots get is what m + k slots get.
use mathlib.Core.Path.{◌≡◌, refl, sym, ap}
use mathlib.Core.List.{List, []}
use mathlib.Core.Bool.{Bool, true, false, cond}
use Prim.Native.Nat.{ℕ, zero, suc, ◌+◌, ◌-◌, ◌*◌, ◌≤◌, ◌<◌}
use native.Mathlib.Nat.{suc-add, zero-add}
use native.Mathlib.Omega.{arith}
use lib.Dec.{ltb, leb}
use lib.ListN.{length}
use borrow.Author.Tests.{leb-true}
use Rattle.fields.specs.Parse.{when}
use Rattle.masks.specs.Masks.{mask_bit}
use Rattle.forms.specs.declared.Coding.{Coding}
use Rattle.tree.specs.Active.{Record}
use Rattle.slots.specs.Inner.{mask_bytes, room_of, standing}
use Rattle.bits.specs.Inner.{is_kept, record_here, Handed, nothing, and_then, hand_out}
use Rattle.records.specs.Inner.{is_inside, hand_piece, follow}
use Rattle.slots.specs.declared.Inside.{Inside}
use Rattle.records.proofs.Laws.{hand-keeps}
use Rattle.records.proofs.Pieces.{IsInside, inside_back, by-origin}

-- h is handed out where m records are wanted, and H where more are. Either h has m, and H is h and then the rest from where h stopped; or h has
-- fewer, and more slots change nothing.
pub data Cut (rest : Inside → Handed) (m : ℕ) (h H : Handed) : Type 0 where
  full : length h.records ≡ m → H ≡ follow h (rest h.inside) → Cut rest m h H
  short : length h.records < m → H ≡ h → Cut rest m h H

-- so with a record in front
with-record : {rest : Inside → Handed} {m : ℕ} {h H : Handed} (r : Record) → Cut rest m h H → Cut rest (suc m) (and_then r h) (and_then r H)
with-record r (full l e) = full (ap suc l) (ap (and_then r) e)
with-record r (short l e) = short (omega arith) (ap (and_then r) e)

-- so where no record is handed out, however many are wanted
none-there : (rest : Inside → Handed) (m : ℕ) (w : Inside) (b : Bool) → let h : Handed = record { records = []; inside = w; whole = b } in rest w ≡ h → Cut rest m h h
none-there rest zero w b e = full refl (sym e)
none-there rest (suc m) w b e = short (omega arith) refl

-- so with another rest that is the same from where h stopped
renamed : {rest other : Inside → Handed} {m : ℕ} {h H : Handed} → rest h.inside ≡ other h.inside → Cut rest m h H → Cut other m h H
renamed d (full l e) = full l (rw d at e)
renamed d (short l e) = short l e

-- words that are a walk's in a piece are so behind the next place
a-place-on : (s : List ℕ) (w : Inside) (k : ℕ) → k ≤ suc w.number → IsInside s w → IsInside s (standing w (suc w.from) k)
a-place-on s w k l h = record { value = h.value; child = h.child; number = omega (arith, h.number); multiple = h.multiple }

module _ (s : List ℕ) (c : Coding) (k : ℕ) where
  -- so are the records of the places before n
  pub hand-cut-at : (n j m : ℕ) (w : Inside) → j ≡ n - w.from → Cut (λ v. hand_out s c k v (n - v.from)) m (hand_out s c m w j) (hand_out s c (m + k) w j)
  unfolding hand_out when
  hand-cut-at n zero zero w e = full refl (rw (← e))
  hand-cut-at n zero (suc m) w e = short (omega arith) refl
  hand-cut-at n (suc j) zero w e = full refl (rw (zero-add, ← e))
  hand-cut-at n (suc j) (suc m) w e = rw suc-add (go (hand-cut-at n j) (mask_bit s w.value_mask w.from) (ltb w.number (room_of s c w.start)) refl refl)
    where
      go : ((i : ℕ) (v : Inside) → j ≡ n - v.from → Cut (λ v. hand_out s c k v (n - v.from)) i (hand_out s c i v j) (hand_out s c (i + k) v j)) → (a b : Bool) →
          mask_bit s w.value_mask w.from ≡ a → ltb w.number (room_of s c w.start) ≡ b →
          Cut (λ v. hand_out s c k v (n - v.from)) (suc m) (hand_out s c (suc m) w (suc j)) (hand_out s c (suc (m + k)) w (suc j))
      go later true true d f = rw (d, f) (with-record (record_here s c w) (later m _ (omega arith)))
      go later true false d f = rw (d, f) (short (omega arith) refl)
      go later false b d f = rw d (rw suc-add at (later (suc m) (standing w (suc w.from) (w.number + cond (is_kept s w w.from) 1 0)) (omega arith)))

  -- where the words are a walk's in a piece with n places, the piece's records are those of the places that are left
  piece_is : (n : ℕ) (w : Inside) → IsInside s w × (8 * mask_bytes w.level ≡ n) → hand_out s c k w (n - w.from) ≡ hand_piece s c k w
  unfolding hand_piece hand_out when
  piece_is n w h = rw (h.1, ← by-origin s w h.0.value h.0.child h.0.number (sym h.0.multiple)) (go (leb n w.from) refl)
    where
      go : (a : Bool) → leb n w.from ≡ a → hand_out s c k w (n - w.from) ≡ when a (nothing w) (hand_out s c k w (n - w.from))
      go true e =
          let d : n - w.from ≡ 0 = omega (arith, leb-true n w.from e) in
          rw d
      go false e = refl

  -- so are the records of a piece, whatever the words are
  pub piece_cut : (m : ℕ) (w : Inside) → Cut (hand_piece s c k) m (hand_piece s c m w) (hand_piece s c (m + k) w)
  unfolding hand_piece when
  piece_cut m w = go (leb n w.from) (is_inside s w) refl refl
    where
      n : ℕ
      n = 8 * mask_bytes w.level

      go : (a b : Bool) → leb n w.from ≡ a → is_inside s w ≡ b → Cut (hand_piece s c k) m (hand_piece s c m w) (hand_piece s c (m + k) w)
      go true b e d = rw e (none-there (hand_piece s c k) m w true (rw e))
      go false false e d = rw (e, d) (none-there (hand_piece s c k) m w false (rw (e, d)))
      go false true e d =
          let stays = hand-keeps s c (λ v. IsInside s v × (8 * mask_bytes v.level ≡ n)) (λ v i l h. (a-place-on s v i l h.0, h.1)) (n - w.from) m w (inside_back s w d, refl) in
          rw (e, d) (renamed (piece_is n _ stays) (hand-cut-at n (n - w.from) m w refl))
