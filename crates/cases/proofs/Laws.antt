-- The ones of a mask in one pass over its bytes. By definition each bit is looked up from the file's start, which for a mask of 4,096 bytes is too much
-- to compute; by these laws a file's masks are computed in as many steps as they have bits.
use mathlib.Core.Path.{◌≡◌, refl, sym, ap, ◌∙◌}
use mathlib.Core.Bool.{Bool, true, false, ◌&&◌}
use mathlib.Core.List.{List, [], ◌∷◌, ◌++◌}
use Prim.Native.Nat.{ℕ, zero, suc, ◌+◌, ◌-◌, ◌*◌, ◌/◌, ◌%◌, ◌≤◌, ◌<◌}
use native.Mathlib.Omega.{arith}
use lib.ListN.{length, take, drop, length-take, length-drop}
use lib.Seq.{get_or-take, get_or-drop}
use Rattle.fields.specs.Parse.{when}
use Rattle.masks.specs.Masks.{digit, mask_bit, cons_if, ones_from, ones, overlap, agree}
use Rattle.masks.proofs.Laws.{ones_none, ones-append, ones-ext, agree-true}
use Rattle.tree.specs.Inner.{kept}

-- n bytes of a file
abbrev pub part : List ℕ → ℕ → ℕ → List ℕ
part s at n = take n (drop at s)

-- the ones of the places from p on whose bits are these bytes
unfoldable pub passed : ℕ → List ℕ → List ℕ
unfolding ones_from digit
passed p [] = []
passed p (b ∷ l) = ones_from (λ q. digit b (q - p)) p 8 ++ passed (p + 8) l

pass : (f : ℕ → Bool) (l : List ℕ) (p : ℕ) → ((q : ℕ) → q < 8 * length l → f (p + q) ≡ mask_bit l 0 q) → ones_from f p (8 * length l) ≡ passed p l
unfolding passed mask_bit
pass f [] p h = ones_none f p
pass f (b ∷ l) p h =
    let e : 8 * suc (length l) ≡ 8 + 8 * length l = omega arith in
    rw (e, ones-append f 8 p (8 * length l), ones-ext f (λ q. digit b (q - p)) 8 p here, pass f l (p + 8) later)
  where
    here : (q : ℕ) → p ≤ q → q < p + 8 → f q ≡ digit b (q - p)
    here q x y =
        let i : p + (q - p) ≡ q = omega arith in
        let d : 0 + (q - p) / 8 ≡ 0 = omega arith in
        let m : (q - p) % 8 ≡ q - p = omega arith in
        rw (i, d, m) at (h (q - p) (omega arith))

    later : (q : ℕ) → q < 8 * length l → f (p + 8 + q) ≡ mask_bit l 0 q
    later q x =
        let i : p + (8 + q) ≡ p + 8 + q = omega arith in
        let d : 0 + (8 + q) / 8 ≡ suc (0 + q / 8) = omega arith in
        let m : (8 + q) % 8 ≡ q % 8 = omega arith in
        rw (i, d, m) at (h (8 + q) (omega arith))

module _ (s : List ℕ) (at n : ℕ) where
  pub bit-part : (q : ℕ) → q < 8 * n → mask_bit s at q ≡ mask_bit (part s at n) 0 q
  unfolding mask_bit
  bit-part q h =
      let z : 0 + q / 8 ≡ q / 8 = omega arith in
      let k : q / 8 < n = omega arith in
      rw (z, get_or-take, get_or-drop)

  -- the law: all that is left is to compute
  pub mask-ones : at + n ≤ length s → ones (mask_bit s at) (8 * n) ≡ passed 0 (part s at n)
  mask-ones h =
      let e : length (part s at n) ≡ n = simp (length-take, length-drop) (omega arith) in
      let z : (q : ℕ) → 0 + q ≡ q = λ q. omega arith in
      rw e at (pass (mask_bit s at) (part s at n) 0 (λ q h. rw (z q) (bit-part q (omega arith))))

-- masks of the same bytes agree
pub parts-agree : (s : List ℕ) (a b n : ℕ) → part s a n ≡ part s b n → agree (mask_bit s a) (mask_bit s b) (8 * n) ≡ true
parts-agree s a b n e =
    (agree-true (mask_bit s a) (mask_bit s b) (8 * n)).1 λ q h. bit-part s a n q h ∙ ap (λ (l : List ℕ). mask_bit l 0 q) e ∙ sym (bit-part s b n q h)

-- the ones of both of two masks are those of the first that the second keeps
cons_if-kept : (a : Bool) (g : ℕ → Bool) (p : ℕ) (l : List ℕ) → cons_if (a && g p) p (kept g l) ≡ kept g (cons_if a p l)
unfolding kept when
cons_if-kept true g p l = go (g p) refl
  where
    go : (b : Bool) → g p ≡ b → cons_if (g p) p (kept g l) ≡ when (g p) (p ∷ kept g l) (kept g l)
    go true e = rw e
    go false e = rw e
cons_if-kept false g p l = refl

ones-kept : (f g : ℕ → Bool) (k p : ℕ) → ones_from (λ q. f q && g q) p k ≡ kept g (ones_from f p k)
unfolding ones_from kept
ones-kept f g zero p = refl
ones-kept f g (suc k) p = rw (ones-kept f g k (suc p)) (cons_if-kept (f p) g p (ones_from f (suc p) k))

pub no-overlap : (f g : ℕ → Bool) (n : ℕ) (l : List ℕ) → ones f n ≡ l → kept g l ≡ [] → overlap f g n ≡ false
no-overlap f g n l e h = rw (ones-kept f g n 0, e, h)
