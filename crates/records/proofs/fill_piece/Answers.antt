-- All places are passed, or the words are no walk's in a piece, or they are, and so the masks and values can be read.
use mathlib.Core.Path.{◌≡◌, sym, ◌∙◌}
use mathlib.Core.Bool.{true}
use Prim.Native.Nat.{◌*◌, ◌<◌}
use native.Mathlib.Omega.{arith}
use Rattle.slots.specs.Inner.{mask_bytes}
use Rattle.records.specs.Inner.{is_inside}
use Rattle.slots.proofs.Levels.{level-small}
use Rattle.records.proofs.Pieces.{piece-passed, piece-none, piece-there, piece-readable, piece-masks, inside_back}
use Rattle.records.proofs.fill_piece.Goals.{Else-n-w, Else-not-is_inside}
use Rattle.records.proofs.fill_piece.Goals as goal

some_left : (c : goal.Else-n-w) → let w = c.args.w in w.from < 8 * mask_bytes w.level
some_left c = rw (← c.mask_bytes-n.ensures.0) (omega (arith, c.if-n-w.false))

is-there : (c : goal.Else-not-is_inside) → let a = c.args in is_inside a.s.now a.w ≡ true
is-there c = sym c.is_inside.ensures ∙ c.if-not-is_inside.false

pub returns-then-n-w : goal.returns-then-n-w
returns-then-n-w c = piece-passed _ _ _ _ _ _ (rw (← c.mask_bytes-n.ensures.0) c.if-n-w.true)

pub is_inside-requires : goal.is_inside-requires
is_inside-requires c = (c.mask_bytes-n.ensures.0, level-small _ _ (some_left (goal.at.is_inside-requires c).Else-n-w))

pub returns-then-not-is_inside : goal.returns-then-not-is_inside
returns-then-not-is_inside c = piece-none _ _ _ _ _ _ (some_left (goal.at.returns-then-not-is_inside c).Else-n-w) (sym c.is_inside.ensures ∙ c.if-not-is_inside.true)

pub nonzero_div-room : goal.nonzero_div-room
nonzero_div-room c = omega (arith, c.requires.0.0)

pub fill_words-requires : goal.fill_words-requires
fill_words-requires c =
    let p = c.requires in
    let n = c.mask_bytes-n.ensures.0 in
    let there = inside_back _ _ (is-there (goal.at.fill_words-requires c).Else-not-is_inside) in
    (piece-readable _ _ there _ p.0 c.remaining.ensures, piece-masks _ _ there n, rw n (some_left (goal.at.fill_words-requires c).Else-n-w), p.1)

pub returns : goal.returns
returns c =
    piece-there _ _ _ _ _ _ (some_left (goal.at.returns c).Else-n-w) (is-there (goal.at.returns c).Else-not-is_inside) c.mask_bytes-n.ensures.0 c.fill_words.ensures
