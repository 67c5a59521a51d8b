-- Laws of answers, by which the functions' proofs go.
use mathlib.Core.Path.{◌≡◌, refl, ap, ◌∙◌}
use Prim.Native.Nat.{ℕ}
use native.Mathlib.Omega.{arith}
use Rattle.fields.specs.Parse.{Parse, got, fails}
use Rattle.fields.specs.Answer.{Answer, gives, refuses, answer, with}
use Rattle.fields.proofs.Laws.{told}

-- The steps of an answer.
pub with-gives : {A B : Type 0} {m : Answer A} (f : A → Answer B) {x : Answer B} {a : A} → gives a ≡ m → x ≡ f a → x ≡ with m f
unfolding with
with-gives f e h = h ∙ ap (λ (m : Answer _). with m f) e

pub with-refuses : {A B : Type 0} {m : Answer A} (f : A → Answer B) {k : ℕ} → refuses k ≡ m → refuses k ≡ with m f
unfolding with
with-refuses f e = ap (λ (m : Answer _). with m f) e

pub with-back : {A B : Type 0} (m : Answer A) (f : A → Answer B) {x : B} → gives x ≡ with m f → (a : A) × (gives a ≡ m) × (gives x ≡ f a)
unfolding with
with-back (gives a) f e = (a, refl, e)
with-back (refuses k) f e = let z : ◌≡◌ {A = ℕ} 0 1 = cc in absurd (omega arith)

pub gives_same : {A : Type 0} {a b : A} → gives a ≡ gives b → a ≡ b
gives_same e = cc

-- a parse's answer
pub answer-got : {A : Type 0} {m : Parse A} {a : A} {n : ℕ} → got a n ≡ m → gives a ≡ answer m
unfolding answer
answer-got e = ap answer e

pub answer-fails : {A : Type 0} {m : Parse A} {k : ℕ} → fails k ≡ m → refuses k ≡ answer m
unfolding answer
answer-fails e = ap answer e

pub answer_back : {A : Type 0} (m : Parse A) {x : A} → gives x ≡ answer m → (n : ℕ) × (got x n ≡ m)
unfolding answer
answer_back (got a n) e = (n, (let u = gives_same e in ap (λ (y : _). got y n) u))
answer_back (fails k) e = let z : ◌≡◌ {A = ℕ} 0 1 = cc in absurd (omega arith)

-- As laws that `search` applies: a call's answer r, which says m, and of which it is known which answer v it is.
pub with-by : {E A : Type 0} (says : E → Answer A) {B : Type 0} {m : Answer A} (f : A → Answer B) {x : Answer B} {r v : E} → says r ≡ m → r ≡ v → x ≡ with (says v) f → x ≡ with m f
with-by says f h e k = k ∙ ap (λ (p : Answer _). with p f) (told says e h)

pub answer-by :
    {E A : Type 0} (says : E → Parse A) {B : Type 0} {m : Parse A} (f : A → Answer B) {x : Answer B} {r v : E} → says r ≡ m → r ≡ v → x ≡ with (answer (says v)) f →
    x ≡ with (answer m) f
answer-by says f h e k = k ∙ ap (λ (p : Parse _). with (answer p) f) (told says e h)

pub with-on : {A B : Type 0} (f : A → Answer B) {x : Answer B} {a : A} → x ≡ f a → x ≡ with (gives a) f
with-on f k = with-gives f refl k

pub with-stop : {A B : Type 0} (f : A → Answer B) {k : ℕ} → refuses k ≡ with (refuses k) f
with-stop f = with-refuses f refl

pub ruleset answers = (with-on, with-stop)
