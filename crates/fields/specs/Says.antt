-- Section 8: what an answer of the code says: the value with the next position, or the number of the check that fails.
use Rattle.std.specs.Prelude.{ℕ, Result, Ok, Err}
use Rattle.fields.specs.Parse.{Parse, got, fails}
use Rattle.fields.specs.Answer.{Answer, gives, refuses}
use Rattle.fields.specs.declared.ParseError.{ParseError}
use Rattle.fields.specs.declared.ParseError.TheVariants as E

-- the number of a check
abbrev pub number : ParseError → ℕ
number E.FileTooLong = 1
number E.PastEnd = 2
number E.MagicMismatch = 3
number E.UnsupportedVersion = 4
number E.NoGridOffsets = 5
number E.PackedGrid = 6
number E.InvalidCompression = 7
number E.TooManyGrids = 8
number E.PositionPastEnd = 9
number E.RepeatedGridName = 10
number E.NotFound = 11
number E.UnsupportedGridType = 12
number E.InstanceParent = 13
number E.UnsupportedMap = 14
number E.InvalidBufferCount = 15
number E.TooManyRoots = 16
number E.InvalidRootOrigin = 17
number E.ChildAndValue = 18
number E.InvalidNodeMetadata = 19
number E.InvalidLeafBlock = 20
number E.NoSuchLeaf = 21
number E.ForeignPlace = 22
number E.InvalidRunSize = 25

abbrev pub says : {A : Type 0} → Result (A × ℕ) ParseError → Parse A
says (Ok (v, n)) = got v n
says (Err e) = fails (number e)

-- an answer to a caller
abbrev pub says_answer : {A : Type 0} → Result A ParseError → Answer A
says_answer (Ok a) = gives a
says_answer (Err e) = refuses (number e)
