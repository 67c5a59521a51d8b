-- An answer to a caller: a value, or the number of the check that refused (section 8).
use Rattle.std.specs.Prelude.{ℕ}
use Rattle.fields.specs.Parse.{Parse, got, fails}

pub data Answer (A : Type 0) : Type 0 where
  gives : A → Answer A
  refuses : ℕ → Answer A

-- what a parse found, its end left out
unfoldable pub answer : {A : Type 0} → Parse A → Answer A
answer (got a n) = gives a
answer (fails k) = refuses k

-- the next question, asked of what an answer gives
unfoldable pub with : {A B : Type 0} → Answer A → (A → Answer B) → Answer B
with (gives a) f = f a
with (refuses k) f = refuses k
