-- From a grid's start on a walk stands, and a step from one of its places leads to the place after so many records more.
use mathlib.Core.Path.{◌≡◌, refl, sym, ap, subst, ◌∙◌}
use mathlib.Core.List.{List, [], ◌∷◌}
use mathlib.Core.Bool.{Bool, true, false, ◌&&◌}
use Prim.Native.Nat.{ℕ, zero, suc, ◌+◌, ◌-◌, ◌≤◌, ◌<◌, min}
use native.Mathlib.Omega.{arith}
use lib.Dec.{ltb, lit≤}
use lib.ListN.{length, take, drop, length-drop}
use lib.Seq.{length-take-le}
use borrow.Author.Tests.{lt-ltb}
use Rattle.std.proofs.Common.{Result, Ok}
use Rattle.fields.specs.Parse.{when}
use Rattle.fields.specs.declared.ParseError.{ParseError}
use Rattle.coordinates.specs.Coordinates.{places}
use Rattle.half.specs.Inner.{IsWidth}
use Rattle.masks.specs.Masks.{ones_from}
use Rattle.masks.proofs.Laws.{count-suc, count-suc-one}
use Rattle.forms.specs.declared.Coding.{Coding}
use Rattle.tree.specs.Topology.{Node5}
use Rattle.tree.specs.Blocks.{Filled5}
use Rattle.tree.specs.Active.{Record, Piece, edge_of, active_list}
use Rattle.tree.proofs.Coverage.{Parsed}
use Rattle.bits.specs.Inner.{Handed, is_kept, hand_out}
use Rattle.records.specs.Inner.{hand_piece}
use Rattle.slots.proofs.Levels.{masked}
use Rattle.cursor.specs.Inner.{Stop, HeldPiece}
use Rattle.cursor.specs.declared.Cursor.{Cursor}
use Rattle.cursor.proofs.Whole.{fresh}
use Rattle.place.specs.Inner.{Course, entered, nowhere, stopped, join, listing_from, course, hand_on, fresh_place, moved, place_from, at_place, Stands, behind, within, Walking, walked_on, Steps}
use Rattle.place.specs.declared.Place.{Place}
use Rattle.place.specs.declared.Start.{Start}
use Rattle.place.proofs.Own.{kept-number, keeps, active, in-room, all-places}
use Rattle.place.proofs.Listing.{first-listed}
use Rattle.place.proofs.Places.{after-records, after_more}

-- in a piece
module _ (s : List ℕ) (c : Coding) (q : Piece) (h : HeldPiece s c q) where
  out-stands : (j p want : ℕ) → p + j ≤ places (edge_of q.level) → Stands s c (hand_out s c want (at_place s q p) j).inside
  unfolding hand_out when is_kept
  out-stands zero p want l = within q p h refl
  out-stands (suc j) p zero l = within q p h refl
  out-stands (suc j) p (suc want) l = go (λ m. out-stands j (suc p) m (omega arith)) (active s c q h p) refl
    where
      go : ((m : ℕ) → Stands s c (hand_out s c m (at_place s q (suc p)) j).inside) → (a : Bool) → active s c q h p ≡ a → Stands s c (hand_out s c (suc want) (at_place s q p) (suc j)).inside
      go later true e =
          let i : p < places (edge_of q.level) = omega arith in
          rw (e, lt-ltb _ _ (in-room s c q h p i e), ← count-suc-one (keeps s c q h) p (h.kept p i e)) (later want)
      go later false e = rw (kept-number q.values.stored s q.child q.value p, ← count-suc (keeps s c q h) p, e) (later (suc want))

  piece-stands : (want : ℕ) → Stands s c (hand_piece s c want (entered q)).inside
  unfolding hand_piece ones_from
  piece-stands want =
      rw ((masked q.level).bits, all-places s c q h want (places (edge_of q.level))) (out-stands (places (edge_of q.level)) 0 want (omega arith))

-- and over the pieces
module _ (s : List ℕ) (c : Coding) (wide : IsWidth c.width) where
  course-stands : (ts : List Stop) (x : Cursor) (want : ℕ) (h : Handed) → ts ≡ listing_from s c x → Stands s c h.inside → Stands s c (course s c want h x ts).inside
  unfolding course when
  course-stands [] x want h e st = st
  course-stands (t ∷ ts) x want h e st =
      let f = first-listed s c wide x e in
      let n = want - length h.records in
      go _ (h.whole && ltb (length h.records) want) (course-stands ts t.behind n _ f.1 (piece-stands s c t.piece f.0 n))
    where
      go : (a : Course) (b : Bool) → Stands s c a.inside → Stands s c (when b (join h.records a) (stopped h x)).inside
      go a true later = later
      go a false later = st

  walk-stands : (x : Cursor) (m : ℕ) → Stands s c (hand_on s c m x nowhere).inside
  unfolding hand_piece when
  walk-stands x m = course-stands (listing_from s c x) x m (hand_piece s c m nowhere) refl (behind (lit≤ tt))

-- The places of a walk over a tree that was read with its blocks.
module _ {s : List ℕ} (g : Start) {roots : List Node5} {filled : List Filled5} (t : Parsed s g.coding roots filled) (wide : IsWidth g.coding.width)
    (begins : (fresh_place g).cursor ≡ fresh t) (all : g.length ≡ length (active_list s g.coding filled)) where
  abbrev from : ℕ → Course
  from m = hand_on s g.coding m (fresh_place g).cursor nowhere

  from_more : (m k : ℕ) → m ≤ g.length → from (m + k) ≡ join (from m).records (hand_on s g.coding k (from m).cursor (from m).inside)
  from_more m k l =
      subst (λ (x : Cursor). let a = hand_on s g.coding m x nowhere in hand_on s g.coding (m + k) x nowhere ≡ join a.records (hand_on s g.coding k a.cursor a.inside)) (sym begins)
      (after_more t wide m k (omega (arith, all, l)))

  from-records : (m k : ℕ) → m ≤ g.length → (hand_on s g.coding k (from m).cursor (from m).inside).records ≡ take k (drop m (active_list s g.coding filled))
  from-records m k l =
      subst (λ (x : Cursor). let a = hand_on s g.coding m x nowhere in (hand_on s g.coding k a.cursor a.inside).records ≡ take k (drop m (active_list s g.coding filled))) (sym begins)
      (after-records t wide m k (omega (arith, all, l)))

  walking : (m k : ℕ) → m + k ≤ g.length → Walking s (place_from s g m) k
  unfolding place_from
  walking m k l =
      let rest : List Record = drop m (active_list s g.coding filled) in
      let n : length rest ≡ g.length - m = simp length-drop (omega (arith, all)) in
      let e = ap length (from-records m k (omega arith)) ∙ length-take-le k rest (omega (arith, n)) in
      record { width = wide; stands = walk-stands s g.coding wide (fresh_place g).cursor m; listed = omega (arith, e) }

  walked : (m k : ℕ) → m + k ≤ g.length → walked_on s (place_from s g m) k ≡ place_from s g (m + k)
  unfolding place_from
  walked m k l =
      let e = from_more m k (omega arith) in
      let n : g.length - m - k ≡ g.length - (m + k) = omega arith in
      λ i. moved (fresh_place g) (n i) (sym e i).cursor (sym e i).inside

  left_after : (m : ℕ) → (place_from s g m).left ≡ g.length - m
  unfolding place_from
  left_after m = refl

  pub step_after : (m n : ℕ) {r : Result Place ParseError} → m ≤ g.length → let p = place_from s g m in Steps s p (min n p.left) r → r ≡ Ok (place_from s g (min (m + n) g.length))
  step_after m n l h =
      let k = min n (place_from s g m).left in
      let few : m + k ≤ g.length = omega (arith, left_after m) in
      let e : m + k ≡ min (m + n) g.length = omega (arith, left_after m) in
      h.reached (walking m k few) ∙ ap (λ (q : Place). Ok q) (walked m k few ∙ ap (place_from s g) e)
