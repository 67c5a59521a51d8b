-- Each turn hands out what is left of a piece, and stands in the next one or stops.
use Rattle.slots.proofs.Laws.{same, room-same}
use Rattle.bits.proofs.Laws.{fills_same}
use Rattle.place.proofs.Laws.{stops_so, goes-next}
use Rattle.place.proofs.hand_pieces.Goals as goal

pub loop-next-smaller : goal.loop-next-smaller
loop-next-smaller c =
    let l = c.loop-next in
    (goes-next _ _ _ l.at.cursor l.at.inside c.fill_piece-t.ensures l.invariant.2 c.requires.0 c.in-Some.ensures).1

pub loop-next-preserved : goal.loop-next-preserved
loop-next-preserved c =
    let l = c.loop-next in
    let f = c.fill_piece-t.ensures in (
      room-same (fills_same f (same _)) l.invariant.0,
      fills_same f l.invariant.1,
      (goes-next _ _ _ l.at.cursor l.at.inside f l.invariant.2 c.requires.0 c.in-Some.ensures).0,
    )

pub returns-in_default : goal.returns-in_default
returns-in_default c =
    let l = c.loop-next in
    stops_so _ _ _ l.at.cursor l.at.inside c.fill_piece-t.ensures l.invariant.2 c.in_default.ensures
