-- In the piece that the walk stands in, or in a later one.
use mathlib.Core.Path.{◌≡◌, sym, ◌∙◌}
use mathlib.Core.Bool.{true}
use Prim.Native.Nat.{◌-◌, ◌*◌, ◌<◌}
use native.Mathlib.Omega.{arith}
use Rattle.slots.specs.Inner.{mask_bytes}
use Rattle.records.specs.Inner.{is_inside}
use Rattle.slots.proofs.Levels.{level-small}
use Rattle.place.proofs.Found.{passed_in, left_in, ends-past, ends-outside, masks-there, passed-fewer, left_there, ends-later, has_here, ends-here}
use Rattle.place.proofs.stand_after.Goals.{After-count_ones, Else-n-w, Else-not-is_inside}
use Rattle.place.proofs.stand_after.Goals as goal

-- in a piece
module _ (c : goal.Else-n-w) where
  bytes : c.mask_bytes-n.result ≡ mask_bytes c.args.w.level
  bytes = c.mask_bytes-n.ensures.0

  within : c.args.w.from < 8 * c.mask_bytes-n.result
  within = c.if-n-w.false

inside : (c : goal.Else-not-is_inside) → true ≡ is_inside c.args.s.now c.args.w
inside c = sym c.if-not-is_inside.false ∙ c.is_inside.ensures

-- its records
module _ (c : goal.After-count_ones) where
  passed : c.count_ones_below-passed.result ≡ passed_in c.args.s.now c.args.w
  passed = c.count_ones_below-passed.ensures

  left : c.count_ones.result - c.count_ones_below-passed.result ≡ left_in c.args.s.now c.args.w
  left = left_there _ c.args.w c.mask_bytes-n.ensures.0 passed c.count_ones.ensures

pub returns-then-n-w : goal.returns-then-n-w
returns-then-n-w c =
    let small : c.args.cursor.roots_left < 4294967296 = omega arith in
    ends-past _ _ c.requires.0 _ _ c.args.w c.mask_bytes-n.ensures.0 small c.requires.1 c.if-n-w.true c.stand_on.ensures

pub is_inside-requires : goal.is_inside-requires
is_inside-requires c =
    let t = (goal.at.is_inside-requires c).Else-n-w in
    (bytes t, level-small _ c.args.w.from (omega (arith, bytes t, within t)))

pub returns-then-not-is_inside : goal.returns-then-not-is_inside
returns-then-not-is_inside c =
    let t = (goal.at.returns-then-not-is_inside c).Else-n-w in
    ends-outside _ _ c.requires.0 _ _ c.args.w (bytes t) (within t) (sym c.if-not-is_inside.true ∙ c.is_inside.ensures)

pub count_ones_below-passed-requires : goal.count_ones_below-passed-requires
count_ones_below-passed-requires c =
    let t = goal.at.count_ones_below-passed-requires c in
    ((masks-there _ c.args.w c.mask_bytes-n.ensures.0 (inside t.Else-not-is_inside)).0, omega (arith, within t.Else-n-w))

pub count_ones-requires : goal.count_ones-requires
count_ones-requires c = (masks-there _ c.args.w c.mask_bytes-n.ensures.0 (inside (goal.at.count_ones-requires c).Else-not-is_inside)).0

pub overflow_sub-count_ones : goal.overflow_sub-count_ones
overflow_sub-count_ones c =
    let t = goal.at.overflow_sub-count_ones c in
    passed-fewer _ c.args.w c.mask_bytes-n.ensures.0 (passed t.After-count_ones) c.count_ones.ensures (within t.Else-n-w)

pub returns-then-left-k : goal.returns-then-left-k
returns-then-left-k c =
    let t = goal.at.returns-then-left-k c in
    let small : c.args.cursor.roots_left < 4294967296 = omega arith in
    ends-later _ _ c.requires.0 _ _ c.args.w c.mask_bytes-n.ensures.0 (within t.Else-n-w) (passed t.After-count_ones) (c.from-left.ensures ∙ left t.After-count_ones) small c.if-left-k.true c.stand_on-then-left-k.ensures

pub stand_behind-requires : goal.stand_behind-requires
stand_behind-requires c =
    let t = goal.at.stand_behind-requires c in
    has_here _ c.args.w c.mask_bytes-n.ensures.0 (passed t.After-count_ones) c.count_ones.ensures c.args.k (inside t.Else-not-is_inside) c.requires.1 (omega (arith, c.from-left.ensures, c.if-left-k.false))

pub returns : goal.returns
returns c =
    let t = goal.at.returns c in
    ends-here _ _ c.requires.0 _ _ c.args.w c.mask_bytes-n.ensures.0 (within t.Else-n-w) (passed t.After-count_ones) (c.from-left.ensures ∙ left t.After-count_ones) c.requires.1 c.if-left-k.false c.stand_behind.ensures
