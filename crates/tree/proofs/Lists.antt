-- Laws of lists: members in pairs, what a join keeps, a run of parses by its members, and what holds of each member.
use mathlib.Core.Path.{◌≡◌, refl, sym, ap, ap₂, ◌∙◌}
use mathlib.Core.List.Memᴰ
use mathlib.Core.List.{List, [], ◌∷◌, ◌++◌, map, append_assoc, Memᴰ, flat_map}
use mathlib.Core.Logic.{◌⊎◌, inl, inr, ⊎_elim}
use mathlib.Core.Bool.{Bool, true, false, true≢false}
use Prim.Native.Nat.{ℕ, zero, suc, ◌≤◌, ◌<◌}
use native.Mathlib.Omega.{arith}
use lib.ListN.{length, get_or}
use Rattle.fields.specs.Parse.{Parse, when, many}
use Rattle.fields.proofs.Laws.{Always, then-always, got-always}
use Rattle.fields.proofs.Agree.{Each, each_append}
use Rattle.tree.specs.Inner.{kept}

-- Two lists of the same length, of which R holds member by member.
abbrev pub Paired : {A B : Type 0} → (A → B → Type 0) → List A → List B → Type 0
Paired R [] [] = Unit {0}
Paired R [] (y ∷ ys) = ⊥
Paired R (x ∷ xs) [] = ⊥
Paired R (x ∷ xs) (y ∷ ys) = R x y × Paired R xs ys

-- a list with itself
pub paired-self : {A : Type 0} (R : A → A → Type 0) (xs : List A) → ((x : A) → Memᴰ x xs → R x x) → Paired R xs xs
paired-self R [] f = tt
paired-self R (x ∷ xs) f = (f x (Memᴰ.head refl), paired-self R xs (λ y m. f y (Memᴰ.tail m)))

-- what a run of parses gets, against the list that it went over
pub many-each : {A C : Type 0} (Q : A → C → Type 0) (g : A → ℕ → Parse C) → ((x : A) (at : ℕ) → Always (λ z n. Q x z) (g x at)) → (xs : List A) (at : ℕ) → Always
    (λ zs n. Paired Q xs zs) (many g xs at)
unfolding many
many-each Q g f [] at = got-always _ _ _ tt
many-each Q g f (x ∷ xs) at = then-always _ _ _ λ z p d. then-always _ _ _ λ zs q e. got-always _ _ _ (f x at z p d, many-each Q g f xs p zs q e)

-- two pairings, one after the other
pub paired-through :
    {A B C : Type 0} (R : A → B → Type 0) (Q : B → C → Type 0) (P : A → C → Type 0) → ((x : A) (y : B) (z : C) → R x y → Q y z → P x z) →
    (xs : List A) (ys : List B) (zs : List C) → Paired R xs ys → Paired Q ys zs → Paired P xs zs
paired-through R Q P f [] [] [] r q = tt
paired-through R Q P f [] [] (z ∷ zs) r q = absurd q
paired-through R Q P f [] (y ∷ ys) zs r q = absurd r
paired-through R Q P f (x ∷ xs) [] zs r q = absurd r
paired-through R Q P f (x ∷ xs) (y ∷ ys) [] r q = absurd q
paired-through R Q P f (x ∷ xs) (y ∷ ys) (z ∷ zs) r q = (f x y z r.0 q.0, paired-through R Q P f xs ys zs r.1 q.1)

-- Joins.
module _ {A B : Type 0} where
  pub flat_map-append : (f : A → List B) (x y : List A) → flat_map f (x ++ y) ≡ flat_map f x ++ flat_map f y
  unfolding flat_map
  flat_map-append f [] y = refl
  flat_map-append f (a ∷ x) y = rw (flat_map-append f x y) (sym (append_assoc (f a) (flat_map f x) (flat_map f y)))

  pub flat_map-map : (f : A → B) (l : List A) → flat_map (λ a. f a ∷ []) l ≡ map f l
  unfolding flat_map
  flat_map-map f [] = refl
  flat_map-map f (a ∷ l) = ap (λ (l : List B). f a ∷ l) (flat_map-map f l)

pub flat_map-flat_map : {A B C : Type 0} (f : B → List C) (g : A → List B) (l : List A) → flat_map f (flat_map g l) ≡ flat_map (λ a. flat_map f (g a)) l
unfolding flat_map
flat_map-flat_map f g [] = refl
flat_map-flat_map f g (a ∷ l) = flat_map-append f (g a) (flat_map g l) ∙ rw (flat_map-flat_map f g l)

-- What passes a test.
module _ {B : Type 0} (test : B → Bool) where
  -- the first member passes, or not
  pub kept-yes : (a : B) (l : List B) → test a ≡ true → kept test (a ∷ l) ≡ a ∷ kept test l
  unfolding kept when
  kept-yes a l e = rw e

  pub kept-no : (a : B) (l : List B) → test a ≡ false → kept test (a ∷ l) ≡ kept test l
  unfolding kept when
  kept-no a l e = rw e

  kept_append : (x y : List B) → kept test (x ++ y) ≡ kept test x ++ kept test y
  unfolding kept
  kept_append [] y = refl
  kept_append (a ∷ x) y = go (test a) refl (kept_append x y)
    where
      go : (t : Bool) → test a ≡ t → kept test (x ++ y) ≡ kept test x ++ kept test y → kept test (a ∷ x ++ y) ≡ kept test (a ∷ x) ++ kept test y
      go true e h = rw (kept-yes a (x ++ y) e, kept-yes a x e, h)
      go false e h = rw (kept-no a (x ++ y) e, kept-no a x e, h)

  pub kept-flat_map : {A : Type 0} (f : A → List B) (l : List A) → kept test (flat_map f l) ≡ flat_map (λ a. kept test (f a)) l
  unfolding flat_map kept
  kept-flat_map f [] = refl
  kept-flat_map f (a ∷ l) = kept_append (f a) (flat_map f l) ∙ rw (kept-flat_map f l)

  -- a member that passes is kept; what is kept is a member that passes
  pub kept_from : (b : B) (l : List B) → Memᴰ b l → test b ≡ true → Memᴰ b (kept test l)
  kept_from b [] m t = absurd (Memᴰ.not-nil m)
  kept_from b (a ∷ l) m t = go (test a) refl (Memᴰ.cases_cons m) (λ n. kept_from b l n t)
    where
      go : (k : Bool) → test a ≡ k → (b ≡ a) ⊎ Memᴰ b l → (Memᴰ b l → Memᴰ b (kept test l)) → Memᴰ b (kept test (a ∷ l))
      go true e (inl h) ih = rw (kept-yes a l e) (Memᴰ.head h)
      go true e (inr n) ih = rw (kept-yes a l e) (Memᴰ.tail (ih n))
      go false e (inl h) ih = absurd (true≢false (sym t ∙ ap test h ∙ e))
      go false e (inr n) ih = rw (kept-no a l e) (ih n)

  pub kept-to : (b : B) (l : List B) → Memᴰ b (kept test l) → Memᴰ b l × (test b ≡ true)
  unfolding kept
  kept-to b [] m = absurd (Memᴰ.not-nil m)
  kept-to b (a ∷ l) m = go (test a) refl (kept-to b l)
    where
      later : Memᴰ b l × (test b ≡ true) → Memᴰ b (a ∷ l) × (test b ≡ true)
      later h = (Memᴰ.tail h.0, h.1)

      go : (k : Bool) → test a ≡ k → (Memᴰ b (kept test l) → Memᴰ b l × (test b ≡ true)) → Memᴰ b (a ∷ l) × (test b ≡ true)
      go true e ih = ⊎_elim (λ (h : b ≡ a). (Memᴰ.head h, ap test h ∙ e)) (λ n. later (ih n)) (Memᴰ.cases_cons (rw (kept-yes a l e) at m))
      go false e ih = later (ih (rw (kept-no a l e) at m))

  -- one that passes, and two that pass at different places, are counted
  kept-one : (l : List B) (i : ℕ) (d : B) → i < length l → test (get_or l i d) ≡ true → 1 ≤ length (kept test l)
  kept-one [] i d h t = absurd (omega arith)
  kept-one (a ∷ l) i d h t = go (test a) refl i h t (λ j k u. kept-one l j d k u)
    where
      go : (k : Bool) → test a ≡ k → (i : ℕ) → i < length (a ∷ l) → test (get_or (a ∷ l) i d) ≡ true →
          ((j : ℕ) → j < length l → test (get_or l j d) ≡ true → 1 ≤ length (kept test l)) → 1 ≤ length (kept test (a ∷ l))
      go true e i h t ih = rw (kept-yes a l e) (omega arith)
      go false e zero h t ih = absurd (true≢false (sym t ∙ e))
      go false e (suc i) h t ih = rw (kept-no a l e) (ih i (omega arith) t)

  pub kept-two : (l : List B) (i j : ℕ) (d : B) → i < j → j < length l → test (get_or l i d) ≡ true → test (get_or l j d) ≡ true → 2 ≤ length (kept test l)
  kept-two [] i j d h k t u = absurd (omega arith)
  kept-two (a ∷ l) i zero d h k t u = absurd (omega arith)
  kept-two (a ∷ l) zero (suc j) d h k t u = rw (kept-yes a l t) (omega (arith, kept-one l j d (omega arith) u))
  kept-two (a ∷ l) (suc i) (suc j) d h k t u = go (test a) refl (kept-two l i j d (omega arith) (omega arith) t u)
    where
      go : (k : Bool) → test a ≡ k → 2 ≤ length (kept test l) → 2 ≤ length (kept test (a ∷ l))
      go true e ih = rw (kept-yes a l e) (omega arith)
      go false e ih = rw (kept-no a l e) ih

-- What holds of each member.
module _ {A B : Type 0} (P : A → Type 0) where
  pub map_same : (f g : A → B) (l : List A) → Each P l → ((a : A) → P a → f a ≡ g a) → map f l ≡ map g l
  map_same f g [] k h = refl
  map_same f g (a ∷ l) k h = ap₂ ◌∷◌ (h a k.0) (map_same f g l k.1 h)

  pub flat_map-same : (f g : A → List B) (l : List A) → Each P l → ((a : A) → P a → f a ≡ g a) → flat_map f l ≡ flat_map g l
  unfolding flat_map
  flat_map-same f g [] k h = refl
  flat_map-same f g (a ∷ l) k h = ap₂ ◌++◌ (h a k.0) (flat_map-same f g l k.1 h)

module _ {A B : Type 0} (P : A → Type 0) (Q : B → Type 0) where
  pub each_map : (f : A → B) (l : List A) → Each P l → ((a : A) → P a → Q (f a)) → Each Q (map f l)
  each_map f [] k h = tt
  each_map f (a ∷ l) k h = (h a k.0, each_map f l k.1 h)

  pub each-flat_map : (f : A → List B) (l : List A) → Each P l → ((a : A) → P a → Each Q (f a)) → Each Q (flat_map f l)
  unfolding flat_map
  each-flat_map f [] k h = tt
  each-flat_map f (a ∷ l) k h = each_append Q (f a) (flat_map f l) (h a k.0) (each-flat_map f l k.1 h)
