-- Laws of the ones among places, for any truth value f of a place.
use mathlib.Core.Path.{◌≡◌, refl, sym, ap, ◌∙◌, subst}
use mathlib.Core.Logic.{◌↔◌, ◌⊎◌, inl, inr, ⊎_elim}
use mathlib.Core.Bool.{Bool, true, false, not, ◌&&◌, cond, beq, true≢false, false≢true, and-eq-true_iff}
use mathlib.Core.List.Memᴰ
use mathlib.Core.List.{List, [], ◌∷◌, ◌++◌, Memᴰ}
use Prim.Native.Nat.{ℕ, zero, suc, ◌+◌, ◌-◌, ◌≤◌, ◌<◌}
use native.Mathlib.Nat.{add-zero, zero-add, add-suc, suc-add, not-suc-le-zero, le_of_suc-le-suc, sub-zero, eq-or-lt_of_le, lt_of_not-le}
use native.Mathlib.Numerals.{add-one}
use native.Mathlib.Omega.{arith}
use lib.ListN.{length, get_or, length-append}
use lib.Seq.{get_or-append_seam}
use borrow.Author.Tests.{not-true, not-false}
use Rattle.std.proofs.Common.{Some, None}
use Rattle.coordinates.specs.Coordinates.{index}
use Rattle.coordinates.specs.declared.Index.{Index}
use Rattle.masks.specs.Masks.{ones_from, cons_if, ones, count_below, is_nil, overlap, agree}
use Rattle.masks.specs.Inner.{zeros_below, first, next_one}

cons_if-append : (b : Bool) (p : ℕ) (l m : List ℕ) → cons_if b p (l ++ m) ≡ cons_if b p l ++ m
cons_if-append true p l m = refl
cons_if-append false p l m = refl

cons_if-length : (b : Bool) (p : ℕ) (l : List ℕ) → length (cons_if b p l) ≡ cond b 1 0 + length l
cons_if-length true p l = omega arith
cons_if-length false p l = omega arith

bit_le : (b : Bool) → cond b 1 0 ≤ 1
bit_le true = omega arith
bit_le false = omega arith

bit_not : (b : Bool) → cond b 1 0 + cond (not b) 1 0 ≡ 1
bit_not true = refl
bit_not false = refl

module _ (f : ℕ → Bool) where
  pub ones_none : (p : ℕ) → ones_from f p 0 ≡ []
  unfolding ones_from
  ones_none p = refl

  -- the first of the places is a one, or a zero
  pub ones-one : (p k : ℕ) → f p ≡ true → ones_from f p (suc k) ≡ p ∷ ones_from f (suc p) k
  unfolding ones_from
  ones-one p k e = rw e

  pub ones-zero : (p k : ℕ) → f p ≡ false → ones_from f p (suc k) ≡ ones_from f (suc p) k
  unfolding ones_from
  ones-zero p k e = rw e

  -- the ones of places in a row are those of the first places and then those of the others
  pub ones-append : (j p k : ℕ) → ones_from f p (j + k) ≡ ones_from f p j ++ ones_from f (p + j) k
  unfolding ones_from
  ones-append zero p k = rw (zero-add, add-zero)
  ones-append (suc j) p k = rw (suc-add, ones-append j (suc p) k, cons_if-append, add-suc, suc-add)

  -- Counts.
  pub length-suc : (p k : ℕ) → length (ones_from f p (suc k)) ≡ cond (f p) 1 0 + length (ones_from f (suc p) k)
  unfolding ones_from
  length-suc p k = cons_if-length (f p) p (ones_from f (suc p) k)

  pub length-add : (j p k : ℕ) → length (ones_from f p (j + k)) ≡ length (ones_from f p j) + length (ones_from f (p + j) k)
  length-add j p k = rw (ones-append j p k, length-append)

  pub length-le : (k p : ℕ) → length (ones_from f p k) ≤ k
  length-le zero p = rw ones_none (omega arith)
  length-le (suc k) p = omega (arith, length-suc p k, bit_le (f p), length-le k (suc p))

  pub length-mono : (p i j : ℕ) → i ≤ j → length (ones_from f p i) ≤ length (ones_from f p j)
  length-mono p i j h =
      let e : j ≡ i + (j - i) = omega arith in
      rw (e, length-add i p (j - i)) (omega arith)

  -- the ones below p + k are those below p and those of the k places from p on
  pub count_add : (p k : ℕ) → count_below f (p + k) ≡ count_below f p + length (ones_from f p k)
  count_add p k = rw (length-add p 0 k, zero-add)

  pub count-suc : (p : ℕ) → count_below f (suc p) ≡ count_below f p + cond (f p) 1 0
  count-suc p = omega (arith, rw add-one at (count_add p 1), length-suc p 0, ap length (ones_none (suc p)))

  pub count-suc-one : (p : ℕ) → f p ≡ true → count_below f (suc p) ≡ suc (count_below f p)
  count-suc-one p e = omega (arith, rw e at (count-suc p))

  pub count-suc-zero : (p : ℕ) → f p ≡ false → count_below f (suc p) ≡ count_below f p
  count-suc-zero p e = omega (arith, rw e at (count-suc p))

  pub count-le : (p : ℕ) → count_below f p ≤ p
  count-le p = length-le p 0

  pub count-mono : (p q : ℕ) → p ≤ q → count_below f p ≤ count_below f q
  count-mono p q h = length-mono 0 p q h

  -- a one is counted past its place
  pub count-strict : (p q : ℕ) → f p ≡ true → p < q → count_below f p < count_below f q
  count-strict p q e h = omega (arith, count-mono (suc p) q h, count-suc-one p e)

-- each place is a one or a zero
pub length-zeros : (f : ℕ → Bool) (k p : ℕ) → length (ones_from f p k) + length (ones_from (λ q. not (f q)) p k) ≡ k
length-zeros f zero p = rw (ones_none f p, ones_none (λ q. not (f q)) p)
length-zeros f (suc k) p =
    omega (arith, length-suc f p k, length-suc (λ q. not (f q)) p k, bit_not (f p), length-zeros f k (suc p))

pub zeros-add : (f : ℕ → Bool) (p : ℕ) → count_below f p + zeros_below f p ≡ p
zeros-add f p = length-zeros f p 0

-- the same truth values give the same ones
pub ones-ext : (f g : ℕ → Bool) (k p : ℕ) → ((q : ℕ) → p ≤ q → q < p + k → f q ≡ g q) → ones_from f p k ≡ ones_from g p k
unfolding ones_from
ones-ext f g zero p e = refl
ones-ext f g (suc k) p e =
    rw (e p (omega arith) (omega arith), ones-ext f g k (suc p) (λ q l h. e q (omega arith) (omega arith)))

-- places counted from a
pub length_shift : (f : ℕ → Bool) (a k p : ℕ) → length (ones_from (λ q. f (a + q)) p k) ≡ length (ones_from f (a + p) k)
length_shift f a zero p = rw (ones_none f (a + p), ones_none (λ q. f (a + q)) p)
length_shift f a (suc k) p =
    omega (arith, length-suc f (a + p) k, length-suc (λ q. f (a + q)) p k, rw add-suc at (length_shift f a k (suc p)))

-- The places of the list.
module _ (f : ℕ → Bool) where
  -- q is one of the k places from p on, and a one
  abbrev pub Among : ℕ → ℕ → ℕ → Type 0
  Among p k q = (p ≤ q) × (q < p + k) × (f q ≡ true)

  among-more : (p k q : ℕ) → Among (suc p) k q → Among p (suc k) q
  among-more p k q a = (omega arith, omega arith, a.2)

  mem-to : (k p q : ℕ) → Memᴰ q (ones_from f p k) → Among p k q
  mem-to zero p q m = absurd (Memᴰ.not-nil (rw (ones_none f p) at m))
  mem-to (suc k) p q m = go (mem-to k (suc p) q) (f p) refl
    where
      go : (Memᴰ q (ones_from f (suc p) k) → Among (suc p) k q) → (b : Bool) → f p ≡ b → Among p (suc k) q
      go rest true e =
          ⊎_elim (λ (h : q ≡ p). (omega arith, omega arith, rw h e)) (λ m'. among-more p k q (rest m'))
          (Memᴰ.cases_cons (rw (ones-one f p k e) at m))
      go rest false e = among-more p k q (rest (rw (ones-zero f p k e) at m))

  mem-from : (k p q : ℕ) → Among p k q → Memᴰ q (ones_from f p k)
  mem-from zero p q a = absurd (omega arith)
  mem-from (suc k) p q a = go (mem-from k (suc p) q) (eq-or-lt_of_le a.0)
    where
      go : (Among (suc p) k q → Memᴰ q (ones_from f (suc p) k)) → (p ≡ q) ⊎ (p < q) → Memᴰ q (ones_from f p (suc k))
      go rest (inl h) = rw (ones-one f p k (rw h a.2)) (Memᴰ.head (sym h))
      go rest (inr h) = mem-later (f p) refl (rest (h, omega arith, a.2))
        where
          mem-later : (b : Bool) → f p ≡ b → Memᴰ q (ones_from f (suc p) k) → Memᴰ q (ones_from f p (suc k))
          mem-later true e m = rw (ones-one f p k e) (Memᴰ.tail m)
          mem-later false e m = rw (ones-zero f p k e) m

  pub ones-mem : (p k q : ℕ) → Memᴰ q (ones_from f p k) ↔ Among p k q
  ones-mem p k q = (mem-to k p q, mem-from k p q)

  -- no place is a one
  pub ones-nil : (k p : ℕ) → ((q : ℕ) → p ≤ q → q < p + k → f q ≡ false) → ones_from f p k ≡ []
  ones-nil zero p z = ones_none f p
  ones-nil (suc k) p z =
      ones-zero f p k (z p (omega arith) (omega arith)) ∙ ones-nil k (suc p) (λ q l h. z q (omega arith) (omega arith))

  pub nil-zero : (k p q : ℕ) → ones_from f p k ≡ [] → p ≤ q → q < p + k → f q ≡ false
  nil-zero k p q e l h = go (f q) refl
    where
      go : (b : Bool) → f q ≡ b → b ≡ false
      go true t = absurd (Memᴰ.not-nil (rw e at (mem-from k p q (l, h, t))))
      go false t = refl

  -- a one parts the list into those below it and those above it
  pub ones_split : (p k q : ℕ) → Among p k q → ones_from f p k ≡ ones_from f p (q - p) ++ q ∷ ones_from f (suc q) (p + k - suc q)
  ones_split p k q a =
      let e : k ≡ q - p + suc (p + k - suc q) = omega arith in
      let b : p + (q - p) ≡ q = omega arith in
      ap (ones_from f p) e ∙ ones-append f (q - p) p (suc (p + k - suc q)) ∙ rw (b, ones-one f q (p + k - suc q) a.2)

  -- The element number j of the list: it is among the ones, and j of them are below it.
  abbrev pub Numbered : ℕ → ℕ → ℕ → ℕ → Type 0
  Numbered p k j q = (p ≤ q) × (q < p + k) × (f q ≡ true) × (length (ones_from f p (q - p)) ≡ j)

  numbered_step : (p k i j q : ℕ) → cond (f p) 1 0 + i ≡ j → Numbered (suc p) k i q → Numbered p (suc k) j q
  numbered_step p k i j q c a =
      let e : q - p ≡ suc (q - suc p) = omega arith in
      let l : length (ones_from f p (q - p)) ≡ j = rw (e, length-suc f p (q - suc p), a.3) c in
      (omega arith, omega arith, a.2, l)

  pub ones-numbered : (k p j d : ℕ) → j < length (ones_from f p k) → Numbered p k j (get_or (ones_from f p k) j d)
  ones-numbered zero p j d h = absurd (not-suc-le-zero (rw (ones_none f p) at h))
  ones-numbered (suc k) p j d h = go (λ i. ones-numbered k (suc p) i d) (f p) refl j h
    where
      go : ((i : ℕ) → i < length (ones_from f (suc p) k) → Numbered (suc p) k i (get_or (ones_from f (suc p) k) i d)) → (b : Bool) → f p ≡ b
          → (j : ℕ) → j < length (ones_from f p (suc k)) → Numbered p (suc k) j (get_or (ones_from f p (suc k)) j d)
      go rest true e zero h =
          let z : p - p ≡ 0 = omega arith in
          let l : length (ones_from f p (p - p)) ≡ 0 = rw (z, ones_none f p) in
          rw (ones-one f p k e) (omega arith, omega arith, e, l)
      go rest true e (suc i) h =
          rw (ones-one f p k e)
          (numbered_step p k i (suc i) _ (rw e (omega arith)) (rest i (le_of_suc-le-suc (rw (ones-one f p k e) at h))))
      go rest false e i h =
          rw (ones-zero f p k e) (numbered_step p k i i _ (rw e (zero-add i)) (rest i (rw (ones-zero f p k e) at h)))

  -- the list rises
  pub ones-rise : (p k i j d : ℕ) → i < j → j < length (ones_from f p k) → get_or (ones_from f p k) i d < get_or (ones_from f p k) j d
  ones-rise p k i j d h l =
      let a = ones-numbered k p i d (omega arith) in
      let b = ones-numbered k p j d l in
      lt_of_not-le (λ (g : get_or (ones_from f p k) j d ≤ get_or (ones_from f p k) i d).
      omega (arith, length-mono f p (get_or (ones_from f p k) j d - p) (get_or (ones_from f p k) i d - p) (omega arith)))

  -- the element number j of a mask's ones: its bit is one, and it has j ones below it
  module _ (n j d : ℕ) (h : j < length (ones f n)) where
    pub nth-lt : get_or (ones f n) j d < n
    nth-lt = omega (arith, (ones-numbered n 0 j d h).1)

    pub nth-one : f (get_or (ones f n) j d) ≡ true
    nth-one = (ones-numbered n 0 j d h).2

    pub nth-below : count_below f (get_or (ones f n) j d) ≡ j
    nth-below = rw sub-zero at (ones-numbered n 0 j d h).3

  -- and a one is the element that its ones below number
  pub one-nth : (n q d : ℕ) → f q ≡ true → q < n → get_or (ones f n) (count_below f q) d ≡ q
  one-nth n q d e h =
      let s = ones_split 0 n q (omega arith, omega arith, e) in
      rw (s, sub-zero) (get_or-append_seam (ones f q) q (ones_from f (suc q) (0 + n - suc q)) d)

-- The next one.
first-none : (l : List ℕ) → first l ≡ None → l ≡ []
first-none [] e = refl
first-none (p ∷ l) e = let z : ◌≡◌ {A = ℕ} 0 1 = cc in absurd (omega arith)

first_some : (l : List ℕ) (q : Index) → first l ≡ Some q → (0 < length l) × (get_or l 0 0 ≡ q.0)
first_some [] q e = let z : ◌≡◌ {A = ℕ} 0 1 = cc in absurd (omega arith)
first_some (p ∷ l) q e = let z : index p ≡ q = cc in (omega arith, ap (λ (i : Index). i.0) z)

length-nil : (l : List ℕ) → length l ≡ 0 → l ≡ []
length-nil [] e = refl
length-nil (p ∷ l) e = absurd (omega arith)

module _ (f : ℕ → Bool) (n p : ℕ) where
  pub next-none : (next_one f n p ≡ None) ↔ (ones_from f p (n - p) ≡ [])
  next-none = (first-none _, λ e. ap first e)

  next-numbered : (q : Index) → next_one f n p ≡ Some q → Numbered f p (n - p) 0 q.0
  next-numbered q e =
      let h = first_some (ones_from f p (n - p)) q e in
      subst (Numbered f p (n - p) 0) h.1 (ones-numbered f (n - p) p 0 0 h.0)

  -- where there is one, the list of the ones from p on starts with it and goes on behind it
  next-split : (q : ℕ) → Numbered f p (n - p) 0 q → ones_from f p (n - p) ≡ q ∷ ones_from f (suc q) (n - suc q)
  next-split q a =
      let e : p + (n - p) ≡ n = omega arith in
      rw (ones_split f p (n - p) q (a.0, a.1, a.2), length-nil (ones_from f p (q - p)) a.3, e)

  pub next-some : (q : Index) → (next_one f n p ≡ Some q) ↔ (ones_from f p (n - p) ≡ q.0 ∷ ones_from f (suc q.0) (n - suc q.0))
  next-some q = (λ e. next-split q.0 (next-numbered q e), λ e. ap first e)

  -- it is a one at or after p, with zeros alone before it
  pub next-from : (q : Index) → next_one f n p ≡ Some q → p ≤ q.0
  next-from q e = (next-numbered q e).0

  pub next-lt : (q : Index) → next_one f n p ≡ Some q → q.0 < n
  next-lt q e = let a = next-numbered q e in omega arith

  pub next_one_lem : (q : Index) → next_one f n p ≡ Some q → f q.0 ≡ true
  next_one_lem q e = (next-numbered q e).2

  pub next-zeros : (q : Index) → next_one f n p ≡ Some q → ones_from f p (q.0 - p) ≡ []
  next-zeros q e = length-nil _ (next-numbered q e).3

  -- and as many ones are below it as below p
  pub next-count : (q : Index) → next_one f n p ≡ Some q → count_below f q.0 ≡ count_below f p
  next-count q e =
      let a = next-numbered q e in
      let h : p + (q.0 - p) ≡ q.0 = omega arith in
      omega (arith, rw h at (count_add f p (q.0 - p)))

  -- and where there is none, as many as in the mask
  pub next-none-count : p ≤ n → next_one f n p ≡ None → count_below f n ≡ count_below f p
  next-none-count l e =
      let h : p + (n - p) ≡ n = omega arith in
      omega (arith, rw h at (count_add f p (n - p)), ap length (next-none.0 e))

  -- past the mask
  pub next-end : n ≤ p → next_one f n p ≡ None
  next-end h =
      let k : n - p ≡ 0 = omega arith in
      rw (k, ones_none f p)

  -- a one at p itself
  pub next_here : f p ≡ true → p < n → next_one f n p ≡ Some (index p)
  next_here e h =
      let k : n - p ≡ suc (n - suc p) = omega arith in
      rw (k, ones-one f p (n - suc p) e)

  -- zeros alone from p to q
  pub next-later : (q : ℕ) → p ≤ q → q ≤ n → ones_from f p (q - p) ≡ [] → next_one f n p ≡ next_one f n q
  next-later q l h e =
      let k : n - p ≡ q - p + (n - q) = omega arith in
      let r : p + (q - p) ≡ q = omega arith in
      rw (k, ones-append f (q - p) p (n - q), e, r)

-- Two masks.
pub is_nil-true : (l : List ℕ) → is_nil l ≡ true → l ≡ []
is_nil-true [] e = refl
is_nil-true (p ∷ l) e = absurd (false≢true e)

-- a mask of zeros alone
pub none_below : (f : ℕ → Bool) (n : ℕ) → (is_nil (ones f n) ≡ true) ↔ ((q : ℕ) → q < n → f q ≡ false)
none_below f n = (
  λ e q h. nil-zero f n 0 q (is_nil-true _ e) (omega arith) (omega arith),
  λ z. ap is_nil (ones-nil f n 0 (λ q l h. z q (omega arith))),
)

-- no place is a one of both
pub overlap-false : (f g : ℕ → Bool) (n : ℕ) → (overlap f g n ≡ false) ↔ ((q : ℕ) → q < n → f q && g q ≡ false)
overlap-false f g n =
    (λ e. (none_below (λ q. f q && g q) n).0 (not-false _ e), λ z. rw ((none_below (λ q. f q && g q) n).1 z))

pub overlap-apart : (f g : ℕ → Bool) (n q : ℕ) → overlap f g n ≡ false → q < n → f q ≡ true → g q ≡ false
overlap-apart f g n q e h t = rw t at ((overlap-false f g n).0 e q h)

-- some place is a one of both
mem-is_nil : (l : List ℕ) (q : ℕ) → Memᴰ q l → is_nil l ≡ false
mem-is_nil [] q m = absurd (Memᴰ.not-nil m)
mem-is_nil (p ∷ l) q m = refl

is_nil-false : (l : List ℕ) → is_nil l ≡ false → 0 < length l
is_nil-false [] e = absurd (true≢false e)
is_nil-false (p ∷ l) e = omega arith

pub overlap-at : (f g : ℕ → Bool) (n q : ℕ) → q < n → f q ≡ true → g q ≡ true → overlap f g n ≡ true
overlap-at f g n q h t u =
    rw (mem-is_nil _ q ((ones-mem (λ q. f q && g q) 0 n q).1 (omega arith, omega arith, (and-eq-true_iff (f q) (g q)).1 (t, u))))

pub overlap-some : (f g : ℕ → Bool) (n : ℕ) → overlap f g n ≡ true → (q : ℕ) × (q < n) × (f q ≡ true) × (g q ≡ true)
overlap-some f g n e =
    let h = is_nil-false (ones (λ q. f q && g q) n) (not-true _ e) in
    let q = get_or (ones (λ q. f q && g q) n) 0 0 in
    let b = (and-eq-true_iff (f q) (g q)).0 (nth-one (λ q. f q && g q) n 0 0 h) in
    (q, nth-lt (λ q. f q && g q) n 0 0 h, b.0, b.1)

-- the places agree
pub differ-false : (a b : Bool) → (not (beq a b) ≡ false) ↔ (a ≡ b)
differ-false true true = (λ e. refl, λ e. refl)
differ-false true false = (λ e. absurd (true≢false e), λ e. absurd (true≢false e))
differ-false false true = (λ e. absurd (true≢false e), λ e. absurd (false≢true e))
differ-false false false = (λ e. refl, λ e. refl)

pub agree-true : (f g : ℕ → Bool) (n : ℕ) → (agree f g n ≡ true) ↔ ((q : ℕ) → q < n → f q ≡ g q)
agree-true f g n = (
  λ e q h. (differ-false (f q) (g q)).0 ((none_below (λ q. not (beq (f q) (g q))) n).0 e q h),
  λ z. (none_below (λ q. not (beq (f q) (g q))) n).1 (λ q h. (differ-false (f q) (g q)).1 (z q h)),
)

-- masks that agree have the same ones
pub agree-ones : (f g : ℕ → Bool) (n : ℕ) → agree f g n ≡ true → ones f n ≡ ones g n
agree-ones f g n e = ones-ext f g n 0 (λ q l h. (agree-true f g n).0 e q (omega arith))
