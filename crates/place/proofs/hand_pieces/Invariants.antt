-- The invariant: what is left to hand out from here is the whole. The loop ends because behind each piece less is to come.
use Prim.Native.Nat.{◌-◌}
use lib.ListN.{length}
use Rattle.slots.specs.Slots.{slots_of}
use Rattle.slots.specs.Inner.{Room}
use Rattle.slots.proofs.Laws.{Same}
use Rattle.place.specs.Inner.{listing_from, hand_on}
use Rattle.place.proofs.Laws.{Coming}
use Rattle.place.proofs.hand_pieces.Given as goal

abbrev pub invariant-loop-next : goal.invariant-loop-next
invariant-loop-next l =
    Room l.limit (slots_of l.x l.y l.z l.level l.value) × Same (slots_of l.x l.y l.z l.level l.value) (slots_of l.initial.x l.initial.y l.initial.z l.initial.level l.initial.value)
    × Coming l.at.filled (hand_on l.s l.c (l.limit - l.at.filled) l.at.cursor l.at.inside) (slots_of l.x l.y l.z l.level l.value) (hand_on l.s l.c l.limit l.initial.at.cursor l.initial.at.inside) (slots_of l.initial.x l.initial.y l.initial.z l.initial.level l.initial.value)

abbrev pub decreases-loop-next : goal.decreases-loop-next
decreases-loop-next l = length (listing_from l.s l.c l.at.cursor)
