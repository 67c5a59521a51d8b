-- What the answer of a fill says, whatever the form of the slots is.
use Rattle.std.specs.Prelude.{◌≡◌, Result, Ok, Err}
use Rattle.fields.specs.Answer.{Answer, gives, refuses}
use Rattle.fields.specs.Says.{number}
use Rattle.fields.specs.declared.ParseError.{ParseError}

-- a fill's answer: where it is filled, what the slots hold at the end; `KeptBy` below says what they hold where it is refused
abbrev pub says_fill : {A : Type 0} → Result Unit ParseError → A → Answer A
says_fill (Ok u) slots = gives slots
says_fill (Err e) slots = refuses (number e)

-- a refused call leaves the slots as they were: their content before it, and after it
abbrev pub KeptBy : {A : Type 0} → Result Unit ParseError → A → A → Type 0
KeptBy (Ok u) before after = Unit {0}
KeptBy (Err e) before after = after ≡ before
