-- Laws of a walk over the pieces: what is left to hand out from here is the whole.
use mathlib.Core.Path.{◌≡◌, refl, sym, ap, ap₂, subst, ◌∙◌}
use mathlib.Core.List.{List, [], ◌∷◌}
use mathlib.Core.Bool.{Bool, true, false, ◌&&◌}
use Prim.Native.Nat.{ℕ, suc, ◌+◌, ◌-◌, ◌≤◌, ◌<◌}
use native.Mathlib.Nat.{sub-zero}
use native.Mathlib.Omega.{arith}
use lib.Dec.{ltb}
use lib.ListN.{length, length-append}
use borrow.Author.Tests.{lt-ltb, le-ltb, ltb-true, ltb-false}
use Rattle.std.proofs.Common.{Option, None, Some, Result}
use Rattle.std.specs.Result.{IsErrAnd}
use Rattle.std.proofs.lemmas.Result.{err_from_is_err_and}
use Rattle.fields.specs.declared.ParseError.{ParseError}
use Rattle.fields.specs.Parse.{when}
use Rattle.forms.specs.declared.Coding.{Coding}
use Rattle.cursor.specs.Inner.{Stop}
use Rattle.cursor.specs.declared.Cursor.{Cursor}
use Rattle.cursor.specs.declared.Piece.{Piece as CodePiece}
use Rattle.slots.specs.Slots.{Slots, laid_from}
use Rattle.bits.specs.Inner.{Handed, Fills}
use Rattle.records.specs.Inner.{hand_piece}
use Rattle.slots.specs.declared.Inside.{Inside}
use Rattle.bits.specs.declared.Run.{Run}
use Rattle.slots.proofs.Laws.{laid-append, laid_same, Same, same}
use Rattle.half.specs.Inner.{IsWidth}
use Rattle.place.specs.Inner.{Course, stopped, join, listing_from, course, hand_on, entered, says_listed, next_stand, HandedOn}
use Rattle.place.specs.declared.Stand.{Stand}
use Rattle.place.proofs.Listing.{first-listed}

-- Handing out a from slot i on, into slots t, comes to the whole, A from the first slot on into t₀.
pub record Coming (i : ℕ) (a : Course) (t : Slots) (A : Course) (t₀ : Slots) : Type 0 where
  pub cursor : a.cursor ≡ A.cursor
  pub inside : a.inside ≡ A.inside
  pub filled : i + length a.records ≡ length A.records
  pub slots : laid_from t i a.records ≡ laid_from t₀ 0 A.records

pub comes : (s : List ℕ) (c : Coding) (limit : ℕ) (x : Cursor) (w : Inside) (t₀ : Slots) → Coming 0 (hand_on s c (limit - 0) x w) t₀ (hand_on s c limit x w) t₀
comes s c limit x w t₀ = rw (sub-zero limit) record { cursor = refl; inside = refl; filled = omega arith; slots = refl }

pub none-some : {A : Type 0} {a : A} → None ≡ Some a → ⊥
none-some e = let z : ◌≡◌ {A = ℕ} 0 1 = cc in absurd (omega arith)

pub some_same : {A : Type 0} {a b : A} → Some a ≡ Some b → a ≡ b
some_same e = cc

-- the refusal that a `?` hands on
pub listed-refused :
    (s : List ℕ) (c : Coding) (r : Result (Option (CodePiece × Cursor)) ParseError) (e : ParseError) {x : List Stop} → IsErrAnd r (λ d. d ≡ e) → [] ≡ x →
    says_listed s c r ≡ x
listed-refused s c r e h k = let p = err_from_is_err_and r h in ap (says_listed s c) p.1 ∙ k

-- the next piece, by the tests and by what is to come
pub not-whole : (filled limit : ℕ) (ts : List Stop) {b : Bool} → b ≡ false → None ≡ next_stand b filled limit ts
unfolding next_stand when
not-whole filled limit [] e = refl
not-whole filled limit (t ∷ ts) e = rw e

pub all-filled : (b : Bool) (filled limit : ℕ) (ts : List Stop) → limit ≤ filled → None ≡ next_stand b filled limit ts
unfolding next_stand when
all-filled b filled limit [] l = refl
all-filled true filled limit (t ∷ ts) l = rw (le-ltb _ _ l)
all-filled false filled limit (t ∷ ts) l = refl

pub none-to-come : (b : Bool) (filled limit : ℕ) (ts : List Stop) → [] ≡ ts → None ≡ next_stand b filled limit ts
unfolding next_stand
none-to-come b filled limit ts e = rw (← e)

pub stands-next :
    {b : Bool} (filled limit : ℕ) {t : Stop} {ts us : List Stop} {w : Inside} → b ≡ true → filled < limit → t ∷ ts ≡ us → w ≡ entered t.piece →
    Some (record { cursor = t.behind; inside = w; filled = filled }) ≡ next_stand b filled limit us
unfolding next_stand when
stands-next filled limit e l d f = rw (← d, e, lt-ltb _ _ l, f)

below_less : (a i n : ℕ) → ltb a (n - i) ≡ ltb (i + a) n
below_less a i n = go (ltb (i + a) n) refl
  where
    go : (b : Bool) → ltb (i + a) n ≡ b → ltb a (n - i) ≡ b
    go true e =
        let l = ltb-true (i + a) n e in
        lt-ltb a (n - i) (omega arith)
    go false e =
        let l = ltb-false (i + a) n e in
        le-ltb a (n - i) (omega arith)

-- A piece's records are filled in.
module _ (s : List ℕ) (c : Coding) (limit : ℕ) (x : Cursor) (w : Inside) {i : ℕ} {t t' : Slots} {r : Run} (f : Fills i (hand_piece s c (limit - i) w) t t' r) {A : Course} {t₀ : Slots}
    (g : Coming i (hand_on s c (limit - i) x w) t A t₀) where
  abbrev own : Handed
  own = hand_piece s c (limit - i) w

  same_test : (own.whole && ltb (length own.records) (limit - i)) ≡ (r.whole && ltb r.filled limit)
  same_test = ap₂ (λ (a b : Bool). a && b) (sym f.whole) (below_less (length own.records) i limit ∙ ap (λ (n : ℕ). ltb n limit) (sym f.filled))

  -- the walk stops there
  stopping : (ts : List Stop) → None ≡ next_stand r.whole r.filled limit ts → course s c (limit - i) own x ts ≡ stopped own x
  unfolding course next_stand when
  stopping [] e = refl
  stopping (t ∷ ts) e = rw same_test (go _ _ (r.whole && ltb r.filled limit) e)
    where
      go : (y : Course) (v : Stand) (b : Bool) → None ≡ when b (Some v) None → when b y (stopped own x) ≡ stopped own x
      go y v true e = absurd (none-some e)
      go y v false e = refl

  pub stops_so : None ≡ next_stand r.whole r.filled limit (listing_from s c x) → HandedOn A t₀ t' (record { cursor = x; inside = r.inside; filled = r.filled })
  stops_so e = go (rw (stopping _ e) at g)
    where
      go : Coming i (stopped own x) t A t₀ → HandedOn A t₀ t' (record { cursor = x; inside = r.inside; filled = r.filled })
      go k = record { cursor = k.cursor; inside = f.inside ∙ k.inside; filled = f.filled ∙ k.filled; slots = f.slots ∙ k.slots }

  -- or goes on in the next piece
  joining : (b : Course) → Coming i (join own.records b) t A t₀ → Coming r.filled b t' A t₀
  joining b k =
      record {
        cursor = k.cursor;
        inside = k.inside;
        filled = omega (arith, f.filled, rw length-append at k.filled);
        slots = rw (f.slots, f.filled) (sym (laid-append t i own.records b.records) ∙ k.slots);
      }

  pub goes-next :
      IsWidth c.width → {v : Stand} → Some v ≡ next_stand r.whole r.filled limit (listing_from s c x) →
      Coming v.filled (hand_on s c (limit - v.filled) v.cursor v.inside) t' A t₀ × (length (listing_from s c v.cursor) < length (listing_from s c x))
  unfolding course next_stand when
  goes-next wide {v} e = go (listing_from s c x) refl e g
    where
      go : (ts : List Stop) → ts ≡ listing_from s c x → Some v ≡ next_stand r.whole r.filled limit ts → Coming i (course s c (limit - i) own x ts) t A t₀ →
          Coming v.filled (hand_on s c (limit - v.filled) v.cursor v.inside) t' A t₀ × (length (listing_from s c v.cursor) < length ts)
      go [] d e g = absurd (none-some (sym e))
      go (t ∷ ts) d e g = tested (r.whole && ltb r.filled limit) same_test e
        where
          behind : ts ≡ listing_from s c t.behind
          behind = (first-listed s c wide x d).1

          n : limit - i - length own.records ≡ limit - r.filled
          n = omega (arith, f.filled)

          here : Stand
          here = record { cursor = t.behind; inside = entered t.piece; filled = r.filled }

          tested : (b : Bool) → (own.whole && ltb (length own.records) (limit - i)) ≡ b → Some v ≡ when b (Some here) None →
              Coming v.filled (hand_on s c (limit - v.filled) v.cursor v.inside) t' A t₀ × (length (listing_from s c v.cursor) < suc (length ts))
          tested true j e =
              let b = ap length behind in
              rw (some_same e) (
                subst (λ (b : Course). Coming r.filled b t' A t₀)
                    (λ q. course s c (n q) (hand_piece s c (n q) (entered t.piece)) t.behind (behind q)) (joining _ (rw j at g)),
                omega (arith, b),
              )
          tested false j e = absurd (none-some (sym e))

-- a walk keeps the slots that there are
pub walks_same : {A : Course} {t t' : Slots} {r : Stand} → HandedOn A t t' r → Same t' t
walks_same {A} {t} f = rw f.slots (laid_same t 0 A.records (same t))
