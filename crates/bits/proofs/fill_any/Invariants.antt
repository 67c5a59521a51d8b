-- The invariant: what the word behind the places passed hands out, after what was handed out, is what the whole word does.
use Prim.Native.Nat.{◌-◌, ◌≤◌, max}
use Rattle.slots.specs.Slots.{slots_of}
use Rattle.slots.specs.Inner.{Room, Readable}
use Rattle.bits.specs.Inner.{hand_word, InWord}
use Rattle.slots.proofs.Laws.{Same}
use Rattle.bits.proofs.Laws.{Going}
use Rattle.bits.proofs.fill_any.Given as goal

abbrev pub invariant-loop-at : goal.invariant-loop-at
invariant-loop-at l =
    (l.at ≤ max l.slot l.limit) × Readable l.s l.c l.room l.b.inside × InWord l.s l.b × Room l.limit (slots_of l.x l.y l.z l.level l.value) × Same (slots_of l.x l.y l.z l.level l.value) (slots_of l.initial.x l.initial.y l.initial.z l.initial.level l.initial.value)
    × Going l.at (hand_word l.s l.c (l.limit - l.at) l.b) (slots_of l.x l.y l.z l.level l.value) l.slot (hand_word l.s l.c (l.limit - l.slot) l.initial.b) (slots_of l.initial.x l.initial.y l.initial.z l.initial.level l.initial.value)
