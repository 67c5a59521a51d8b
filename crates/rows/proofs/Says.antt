-- Several calls of the core, one after the other, say what one call says.
use mathlib.Core.Path.{◌≡◌, refl, sym, ap, ◌∙◌}
use mathlib.Core.List.{List, [], ◌++◌, append_assoc, append-nil}
use Prim.Native.Nat.{ℕ, zero, suc, ◌+◌, ◌-◌, ◌≤◌, ◌<◌}
use native.Mathlib.Nat.{zero-add, add-zero, add_assoc, sub-zero}
use native.Mathlib.Omega.{arith}
use lib.ListN.{length, take, drop, length-take, length-drop, length-append}
use lib.Seq.{take-add, drop-drop}
use borrow.Author.Tests.{ne_eqb}
use Rattle.fields.specs.Parse.{when}
use Rattle.std.proofs.Common.{Result, Ok, Err}
use Rattle.fields.specs.Answer.{gives}
use Rattle.fields.specs.Says.{number}
use Rattle.fields.specs.declared.ParseError.{ParseError}
use Rattle.archive.specs.declared.Asked.{Asked}
use Rattle.fields.proofs.Answers.{gives_same}
use Rattle.tree.specs.Active.{Record}
use Rattle.slots.specs.Slots.{Slots, slots_of, slot_count, laid_from}
use Rattle.grid.specs.Grid.{Grid, grid, active_of, place_after}
use Rattle.place.specs.declared.Place.{Place}
use Rattle.walk.specs.Walk.{next_records, walked_to, LeftBehind, Promise}
use Rattle.walk.specs.Demand3.{rows, in_slots}
use Rattle.walk.proofs.Demand3.{take-there, rows-laid}
use Rattle.walk.proofs.Laws.{refuses-gives, does-nothing, keeps}
use Rattle.walk.proofs.Reached.{length-nil}
use Rattle.walk.specs.declared.Walked.{Walked}
use Rattle.rows.specs.Inner.{Says, counted, together}
use Rattle.rows.proofs.Columns.{rows-length}

-- Taking k first, and then what is still wanted from the rest, is taking all at once.
take_more : {A : Type 0} (k n : ℕ) (l : List A) → k ≤ n → take n l ≡ take k l ++ take (n - length (take k l)) (drop (length (take k l)) l)
take_more k n l h =
    let m = length (take k l) in
    let e : m + (n - m) ≡ n = omega (arith, length-take k l) in
    ap (λ (j : ℕ). take j l) (sym e) ∙ take-add m (n - m) l ∙ ap (λ (t : List _). t ++ take (n - m) (drop m l)) (take-there k l)

some-wanted : (k n : ℕ) → (k ≡ 0 → n ≡ 0) → 0 < n → 0 < k
some-wanted zero n h l = omega (arith, h refl)
some-wanted (suc k) n h l = omega arith

-- Where none of k is there, none of n is.
take_none : {A : Type 0} (k n : ℕ) (l : List A) → length (take k l) ≡ 0 → (k ≡ 0 → n ≡ 0) → take n l ≡ take k l
take_none zero n l e h = rw (h refl)
take_none (suc k) n l e h =
    length-nil (take n l) (omega (arith, length-take n l, length-take (suc k) l)) ∙ sym (length-nil (take (suc k) l) e)

most : {A : Type 0} (k : ℕ) (l : List A) → 0 + length (take k l) ≤ k
most k l = omega (arith, length-take k l)

-- ---- What a call of the core says, and back.
pub says_of : (s : List ℕ) (p : Place) (t : Slots) (r : Result Walked ParseError) (t' : Slots) → Promise s p t r t' → Says s p (slot_count t) r (in_slots r t')
says_of s p t (Ok w) t' q =
    record {
      reached = λ asked name g m e l f.
          let next = next_records s g m (slot_count t) in
          let d = q.reached asked name g m e l f in
          let n : w.filled ≡ length next = ap (λ (w : Walked). w.filled) (gives_same d.0) in
          let k : 0 + length next ≤ slot_count t = most (slot_count t) (drop m (active_of s g)) in
          (d.0, rw (n, d.1) (rows-laid t 0 next k));
      some-records = λ v e. (rows-length t' 0 w.filled ∙ ap (λ (w : Walked). w.filled) (gives_same e), (q.some-records v e).2);
      refused = λ n e. absurd (refuses-gives (sym e));
      left_behind = q.left_behind;
      no-slots = q.no-slots;
      past_end = q.past_end;
    }
says_of s p t (Err x) t' q =
    record {
      reached = λ asked name g m e l f. absurd (refuses-gives (q.reached asked name g m e l f).0);
      some-records = λ v e. absurd (refuses-gives e);
      refused = λ n e. ((q.refused n e).0, refl);
      left_behind = q.left_behind;
      no-slots = q.no-slots;
      past_end = q.past_end;
    }

pub promise-of : {s : List ℕ} {p : Place} {t : Slots} {r : Result Walked ParseError} {rs : List Record} {t' : Slots} → Says s p (slot_count t) r rs → t' ≡ laid_from t 0 rs → Promise s p t r t'
unfolding laid_from
promise-of {t = t} {rs = rs} q e =
    record {
      reached = λ asked name g m a l f. let d = q.reached asked name g m a l f in (d.0, e ∙ ap (laid_from t 0) d.1);
      some-records = λ w h. let d = q.some-records w h in (rs, d.0, d.1, e);
      refused = λ n h. let d = q.refused n h in (d.0, e ∙ ap (laid_from t 0) d.1);
      left_behind = q.left_behind;
      no-slots = q.no-slots;
      past_end = q.past_end;
    }

-- no more records than slots
pub says-few : (s : List ℕ) (p : Place) (k : ℕ) (r : Result Walked ParseError) (rs : List Record) → Says s p k r rs → length rs ≤ k
says-few s p k (Ok w) rs q = let d = q.some-records w refl in omega (arith, d.0, d.1)
says-few s p k (Err e) rs q = rw (q.refused (number e) refl).1 (omega arith)

-- ---- A second call goes on from where the first one stopped.
-- what is left behind an answer, for another number of slots; and behind two calls, of which the first handed out records
left-for : {p : Place} {k n : ℕ} {w : Walked} → LeftBehind p k w → (0 < n → 0 < p.left → 0 < w.filled) → LeftBehind p n w
left-for x f = record { start = x.start; most = x.most; left = x.left; in_place = x.in_place; some = f }

left-joined : {p : Place} {k j n : ℕ} {v u : Walked} → LeftBehind p k v → LeftBehind v.place j u → 0 < v.filled → LeftBehind p n (counted v u)
left-joined x y h = record { start = y.start ∙ x.start; most = omega arith; left = omega arith; in_place = y.in_place; some = λ a b. omega arith }

module _ (s : List ℕ) (g : Grid) (m k n : ℕ) (h : k ≤ n) where
  abbrev first : List Record
  first = next_records s g m k

  abbrev second : List Record
  second = next_records s g (m + length first) (n - length first)

  next-joined : first ++ second ≡ next_records s g m n
  next-joined = sym (take_more k n (drop m (active_of s g)) h ∙ rw drop-drop)

  walked-joined : counted (walked_to s g m (length first)) (walked_to s g (m + length first) (length second)) ≡ walked_to s g m (length (next_records s g m n))
  walked-joined = rw (← next-joined, length-append, add_assoc)

module _ {s : List ℕ} {p : Place} {k n : ℕ} {v : Walked} {rs : List Record} (q : Says s p k (Ok v) rs) (some-filled : 0 < v.filled) (h : k ≤ n) where
  few : v.filled ≤ k
  few = (q.some-records v refl).1

  -- an answer with records: what is left to show of it
  walks : (w : Walked) (all : List Record) → length all ≡ w.filled → w.filled ≤ n → LeftBehind p n w →
      ((asked : Asked) (name : List ℕ) (g : Grid) (m : ℕ) → gives g ≡ grid s asked name → m ≤ length (active_of s g) → p ≡ place_after s g m →
      (gives w ≡ gives (walked_to s g m (length (next_records s g m n)))) × (all ≡ next_records s g m n)) → Says s p n (Ok w) all
  walks w all l f b d =
      record {
        reached = d;
        some-records = λ u e. let z = gives_same e in (rw (← z) l, rw (← z) f);
        refused = λ j e. absurd (refuses-gives (sym e));
        left_behind = λ u e. rw (← gives_same e) b;
        no-slots = λ e. absurd (omega (arith, few));
        past_end = λ a b c. absurd (refuses-gives (sym (q.past_end (omega (arith, few)) b c)));
      }

  pub join : (a : Result Walked ParseError) (more : List Record) → Says s v.place (n - v.filled) a more → Says s p n (together v a) (rs ++ more)
  unfolding when
  join (Ok u) more b =
      let l = (q.some-records v refl).0 in
      let c = b.some-records u refl in
      let behind : LeftBehind p n (counted v u) = left-joined (q.left_behind v refl) (b.left_behind u refl) some-filled in
      walks (counted v u) (rs ++ more) (rw length-append (omega arith)) (omega (arith, few)) behind (λ asked name g m e i f.
      let d = q.reached asked name g m e i f in
      let first = next_records s g m k in
      let x : v ≡ walked_to s g m (length first) = gives_same d.0 in
      let y = (rw x at b).reached asked name g (m + length first) e (omega (arith, length-take k (drop m (active_of s g)), length-drop m (active_of s g))) refl in
      (ap gives (rw (x, gives_same y.0) (walked-joined s g m k n h)), rw (d.1, y.1) (next-joined s g m k n h)))
  join (Err x) more b =
      let l = (q.some-records v refl).0 in
      let e : more ≡ [] = (b.refused (number x) refl).1 in
      rw (ne_eqb v.filled 0 (λ z. omega arith), e, append-nil) (walks v rs l (omega (arith, few)) (left-for (q.left_behind v refl) (λ i j. some-filled)) (λ asked name g m e i f.
      let d = q.reached asked name g m e i f in
      let first = next_records s g m k in
      let x : v ≡ walked_to s g m (length first) = gives_same d.0 in
      absurd (refuses-gives ((rw x at b).reached asked name g (m + length first) e (omega (arith, length-take k (drop m (active_of s g)), length-drop m (active_of s g))) refl).0)))

-- A call that found nothing for k slots finds nothing for more of them.
pub widen : (s : List ℕ) (p : Place) (k n : ℕ) (r : Result Walked ParseError) (rs : List Record) → Says s p k r rs → length rs ≡ 0 → k ≤ n → (k ≡ 0 → n ≡ 0) → Says s p n r rs
widen s p k n r rs q z l h =
    record {
      reached = λ asked name g m e i f.
          let d = q.reached asked name g m e i f in
          rw (take_none k n (drop m (active_of s g)) (rw d.1 at z) h) d;
      some-records = λ w e. let d = q.some-records w e in (d.0, omega (arith, d.1));
      refused = q.refused;
      left_behind = λ w e. let d = q.left_behind w e in left-for d (λ i. d.some (some-wanted k n h i));
      no-slots = λ e. q.no-slots (omega arith);
      past_end = λ a. q.past_end (some-wanted k n h a);
    }

-- ---- The call so far: whatever the next call says, for the slots that are left, makes what the whole call says.
abbrev pub Whole : List ℕ → Place → ℕ → Walked → List Record → Type 0
Whole s p n w rs = (a : Result Walked ParseError) (more : List Record) → Says s w.place (n - w.filled) a more → Says s p n (together w a) (rs ++ more)

-- before the first call
abbrev pub start : Place → Walked
start p = record { place = p; filled = 0; left = p.left }

together-start : (p : Place) (a : Result Walked ParseError) → together (start p) a ≡ a
unfolding when
together-start p (Ok v) = rw zero-add
together-start p (Err x) = refl

together-more : (w v : Walked) (a : Result Walked ParseError) → 0 < v.filled → together w (together v a) ≡ together (counted w v) a
unfolding when
together-more w v (Ok u) h = rw add_assoc
together-more w v (Err x) h = rw (ne_eqb v.filled 0 (λ e. omega arith), ne_eqb (w.filled + v.filled) 0 (λ e. omega arith))

pub whole-start : (s : List ℕ) (p : Place) (n : ℕ) → Whole s p n (start p) []
whole-start s p n a more q = rw (together-start p a) (rw sub-zero at q)

-- One more call, for k of the slots that are left, and at least one.
module _ (s : List ℕ) (p : Place) (n : ℕ) (w : Walked) (rs : List Record) (whole : Whole s p n w rs) {k : ℕ} (some : 0 < k) (few : k ≤ n - w.filled) where
  -- it hands out nothing: the walk is over
  pub over : (a : Result Walked ParseError) (more : List Record) → Says s w.place k a more → length more ≡ 0 → Says s p n (together w a) rs
  over a more q z =
      let e : more ≡ [] = length-nil more z in
      let b : Says s w.place (n - w.filled) a more = widen s w.place k (n - w.filled) a more q z few (λ h. omega arith) in
      rw (← append-nil rs) (rw e at (whole a more b))

  -- it hands out records: the next call goes on behind them
  pub onward : {v : Walked} {more : List Record} → Says s w.place k (Ok v) more → 0 < v.filled → Whole s p n (counted w v) (rs ++ more)
  onward {v} {more} q f a later b =
      let j : n - (w.filled + v.filled) ≡ n - w.filled - v.filled = omega arith in
      rw (append_assoc, ← together-more w v a f) (whole (together v a) (more ++ later) (join q f few a later (rw j at b)))

-- Where no slots are left the walk is over too.
abbrev no-slots : Slots
no-slots = slots_of [] [] [] [] []

says-nothing : (s : List ℕ) (p : Place) → Says s p 0 (Ok (start p)) []
unfolding rows
says-nothing s p = says_of s p no-slots (Ok (start p)) no-slots (keeps s p no-slots (does-nothing s p no-slots (omega arith) refl))

pub filled-up : (s : List ℕ) (p : Place) (n : ℕ) (w : Walked) (rs : List Record) → Whole s p n w rs → n ≤ w.filled → w.left ≡ w.place.left → Says s p n (Ok w) rs
filled-up s p n w rs whole h e =
    let z : n - w.filled ≡ 0 = omega arith in
    let same : counted w (start w.place) ≡ w = λ i. record { place = w.place; filled = add-zero w.filled i; left = sym e i } in
    rw (← append-nil rs) (rw same at (whole (Ok (start w.place)) [] (rw z (says-nothing s w.place))))
