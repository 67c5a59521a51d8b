-- Laws of the definitions, by which the functions' proofs go, and those that callers need.
use mathlib.Core.Path.{◌≡◌, refl, sym, ap, ◌∙◌}
use mathlib.Core.List.{List, [], ◌∷◌, ◌++◌}
use mathlib.Core.Bool.{Bool, true, false, ◌||◌, ◌&&◌, not, or-false, or_assoc}
use Prim.Native.Nat.{ℕ, zero, suc, ◌+◌, ◌*◌, ◌≤◌, ◌<◌}
use native.Mathlib.Numerals.{add-one}
use native.Mathlib.Omega.{arith}
use lib.Dec.{leb}
use lib.ListN.{length, drop, get_or, drop_of_length-le}
use lib.Seq.{drop-cons}
use borrow.Author.Tests.{leb-true, leb-false, not-true}
use Rattle.fields.specs.Parse.{got, fails, then, many, times, check}
use Rattle.fields.specs.Fields.{u32_field, bytes_field}
use Rattle.fields.specs.declared.Span.{Span}
use Rattle.fields.specs.declared.IVec3.{IVec3}
use Rattle.fields.proofs.Laws.{then-fails, then-got, Always, then-always, check-always, got-always}
use Rattle.fields.proofs.Laws.{field_back, field-long, field-whole, field_past, then-back, check-back, check-passes, check-fails}
use Rattle.fields.proofs.Ends.{made_ends, many-ends, field-ends}
use Rattle.coordinates.specs.Coordinates.{aligned, same_coord, origin_of}
use Rattle.coordinates.specs.declared.GlobalCoord.{GlobalCoord}
use Rattle.coordinates.proofs.Axis.{and_both}
use Rattle.fields.proofs.Steps.{check-eq, check-ne, check-le, check-gt}
use Rattle.roots.specs.Roots.{is_among, origin_field, buffers_field, root_count_field, tiles_field, tree_head_field}

-- a count of buffers that passes check 15, and a number of roots that passes check 16 or does not
pub one-buffer : (s : List ℕ) (at : ℕ) {n p : ℕ} → got n p ≡ u32_field s at → n ≡ 1 → got n p ≡ buffers_field s at
unfolding buffers_field
one-buffer s at e h = then-got _ e (check-eq _ _ 15 h refl)

pub other-buffers : (s : List ℕ) (at : ℕ) {n p : ℕ} → got n p ≡ u32_field s at → (n ≡ 1 → ⊥) → fails 15 ≡ buffers_field s at
unfolding buffers_field
other-buffers s at e h = then-got _ e (check-ne _ _ _ h)

pub few-roots : (s : List ℕ) (limit at : ℕ) {n p : ℕ} → got n p ≡ u32_field s at → n ≤ limit → got n p ≡ root_count_field s limit at
unfolding root_count_field
few-roots s limit at e h = then-got _ e (check-le _ _ 16 h refl)

pub many-roots : (s : List ℕ) (limit at : ℕ) {n p : ℕ} → got n p ≡ u32_field s at → limit < n → fails 16 ≡ root_count_field s limit at
unfolding root_count_field
many-roots s limit at e h = then-got _ e (check-gt _ _ _ h)

-- the number itself runs past the end
pub no-count : (s : List ℕ) (at : ℕ) {k : ℕ} → fails k ≡ u32_field s at → fails k ≡ buffers_field s at
unfolding buffers_field
no-count s at e = then-fails _ e

pub no-root-count : (s : List ℕ) (limit at : ℕ) {k : ℕ} → fails k ≡ u32_field s at → fails k ≡ root_count_field s limit at
unfolding root_count_field
no-root-count s limit at e = then-fails _ e

-- Root tiles that are passed one by one are passed by one length.
tiles-got :
    (s : List ℕ) (k at : ℕ) {w : Span} {n : ℕ} → at ≤ length s → got w n ≡ bytes_field s (17 * k) at → (tiles : List Span) × (got tiles n ≡ times (bytes_field s 17) k at)
unfolding many
tiles-got s zero at {w} {n} h e =
    let b = field_back s at 0 _ e in
    let m : n ≡ at = omega (arith, b.2) in
    ([], ap (got []) m)
tiles-got s (suc k) at {w} {n} h e =
    let b = field_back s at (17 * suc k) _ e in
    let m : n ≡ at + 17 + 17 * k = omega (arith, b.2) in
    let later = tiles-got s k (at + 17) {w = record { start = at + 17; len = 17 * k }} {n = n} (omega arith)
    (rw m (field-whole s (at + 17) (17 * k) _ _ (omega arith) refl)) in
    (record { start = at; len = 17 } ∷ later.0, then-got _ (field-whole s at 17 _ _ (omega arith) refl) (then-got _ later.1 refl))

tiles-past : (s : List ℕ) (k at : ℕ) → fails 2 ≡ bytes_field s (17 * suc k) at → fails 2 ≡ times (bytes_field s 17) (suc k) at
unfolding many
tiles-past s zero at e = then-fails _ (field_past s at 17 _ (omega (arith, field-long s at 17 _ e)))
tiles-past s (suc k) at e = go (leb (at + 17) (length s)) refl (tiles-past s k (at + 17))
  where
    go : (b : Bool) → leb (at + 17) (length s) ≡ b → (fails 2 ≡ bytes_field s (17 * suc k) (at + 17) → fails 2 ≡ times (bytes_field s 17) (suc k) (at + 17)) →
        fails 2 ≡ times (bytes_field s 17) (suc (suc k)) at
    go true x later =
        let p : length s < at + 17 + 17 * suc k = omega (arith, field-long s at (17 * suc (suc k)) _ e) in
        then-got _ (field-whole s at 17 _ _ (leb-true _ _ x) refl) (then-fails _ (later (field_past s (at + 17) (17 * suc k) _ p)))
    go false x later = then-fails _ (field_past s at 17 _ (omega (arith, leb-false)))

pub no-tiles : (s : List ℕ) (k at : ℕ) → k ≡ 0 → got tt at ≡ tiles_field s k at
unfolding tiles_field many
no-tiles s k at e = rw e (then-got _ refl refl)

pub tiles-passed : (s : List ℕ) (k at : ℕ) → (k ≡ 0 → ⊥) → then (bytes_field s (17 * k) at) (λ w p. got tt p) ≡ tiles_field s k at
unfolding tiles_field
tiles-passed s zero at h = absurd (h refl)
tiles-passed s (suc k) at h = go (leb (at + 17 * suc k) (length s)) refl
  where
    go : (b : Bool) → leb (at + 17 * suc k) (length s) ≡ b →
        then (bytes_field s (17 * suc k) at) (λ w p. got (tt {0}) p) ≡ then (times (bytes_field s 17) (suc k) at) (λ tiles p. got (tt {0}) p)
    go true x =
        let f = field-whole {A = Span} s at (17 * suc k) (record { start = at; len = 17 * suc k }) _ (leb-true _ _ x) refl in
        let l : at + 17 * suc k ≤ length s = leb-true _ _ x in
        sym (then-got _ f refl) ∙ then-got _ (tiles-got s (suc k) at (omega arith) f).1 refl
    go false x =
        let f = field_past {A = Span} s at (17 * suc k) (record { start = at; len = 17 * suc k }) (omega (arith, leb-false)) in
        sym (then-fails _ f) ∙ then-fails _ (tiles-past s k at f)

-- there are no more roots than the limit, and these start in the file
pub head-inside : (s : List ℕ) (limit at : ℕ) → Always (λ h p. (h.root_count ≤ limit) × (p ≤ length s)) (tree_head_field s limit at)
unfolding tree_head_field root_count_field tiles_field
head-inside s limit at =
    then-always _ _ _ λ one p e. then-always _ _ _ λ background q e. then-always _ _ _ λ tiles r e. then-always _ _ _ λ roots t e.
    then-always _ _ _ λ passed n f. got-always _ _ _
    (let b = then-back _ _ e in
    let k = check-back _ _ _ b.3 in
    let u = field_back s r 4 _ b.2 in
    let few : roots ≤ limit = (let v = k.1 in let u : roots ≡ b.0 = cc in rw u (leb-true _ _ k.0)) in
    let here : t ≤ length s = (let v = k.1 in let w : t ≡ b.1 = cc in omega (arith, u.0, u.2)) in
    let ends = made_ends s t _ (λ ts. tt) (many-ends s (λ u q. bytes_field s 17 q) (λ u q l. field-ends s q 17 _) _ t here) in
    (few, (ends passed n f).1))

-- the roots start where what stands before them ends
pub head-end : (s : List ℕ) (limit at : ℕ) → Always (λ h p. p ≡ h.roots_pos) (tree_head_field s limit at)
unfolding tree_head_field
head-end s limit at =
    then-always _ _ _ λ one p e. then-always _ _ _ λ background q e. then-always _ _ _ λ tiles r e. then-always _ _ _ λ roots t e.
    then-always _ _ _ λ passed n e. got-always _ _ _ refl

-- a coordinate among those from the k-th on: the k-th is it, or is not, or none is left
module _ (o : GlobalCoord) (l : List GlobalCoord) (k : ℕ) where
  pub among-here : (d : GlobalCoord) → k < length l → true ≡ same_coord (get_or l k d) o → true ≡ is_among o (drop k l)
  unfolding is_among
  among-here d h e = rw (drop-cons l k d h, ← e)

  pub among_later : (d : GlobalCoord) → k < length l → false ≡ same_coord (get_or l k d) o → is_among o (drop (k + 1) l) ≡ is_among o (drop k l)
  unfolding is_among
  among_later d h e = rw (add-one k, drop-cons l k d h, ← e)

  pub among_none : length l ≤ k → false ≡ is_among o (drop k l)
  unfolding is_among
  among_none h = rw (drop_of_length-le l h)

-- check 17, of the origin o that was read as v
module _ {o : GlobalCoord} (v : IVec3) (earlier : List GlobalCoord) {ok : Bool} (p : ℕ) (e : o ≡ origin_of v) (k : ok ≡ (aligned 4096 o && not (is_among o earlier))) where
  pub old-origin : ok ≡ false → fails 17 ≡ check (aligned 4096 (origin_of v) && not (is_among (origin_of v) earlier)) 17 (got (origin_of v) p)
  old-origin h = check-fails _ (sym h ∙ rw e at k)

  pub new-origin : ok ≡ true → got o p ≡ check (aligned 4096 (origin_of v) && not (is_among (origin_of v) earlier)) 17 (got (origin_of v) p)
  new-origin h = check-passes 17 (sym h ∙ rw e at k) (ap (λ (x : GlobalCoord). got x p) e)

-- an origin that was read is aligned, and what follows it lies in the file
pub origin-aligned : (earlier : List GlobalCoord) (s : List ℕ) (at : ℕ) → Always (λ o p. (aligned 4096 o ≡ true) × (at ≤ p) × (p ≤ length s)) (origin_field s earlier at)
unfolding origin_field
origin-aligned earlier s at =
    then-always _ _ _ λ v p e. check-always _ _ _ _ λ ok. got-always _ _ _
    (let b = field_back s at 12 _ e in
    (both_first _ _ ok, omega (arith, b.2), omega (arith, b.0, b.2)))
  where
    both_first : (a b : Bool) → (a && b) ≡ true → a ≡ true
    both_first true b e = refl
    both_first false b e = e

-- an origin that was read is a multiple of 4096, and new
pub origin-new : (earlier : List GlobalCoord) (s : List ℕ) (at : ℕ) → Always (λ o p. (aligned 4096 o ≡ true) × (is_among o earlier ≡ false)) (origin_field s earlier at)
unfolding origin_field
origin-new earlier s at = then-always _ _ _ λ v p e. check-always _ _ _ _ λ ok. got-always _ _ _
    (let b = and_both _ _ ok in
    (b.0, not-true _ b.1))

-- whether a coordinate is among others and one more
pub among-more : (o e : GlobalCoord) (l : List GlobalCoord) → is_among o (l ++ e ∷ []) ≡ (is_among o l || same_coord e o)
unfolding is_among
among-more o e [] = or-false (same_coord e o)
among-more o e (x ∷ l) = rw (among-more o e l) (sym (or_assoc (same_coord x o) (is_among o l) (same_coord e o)))
