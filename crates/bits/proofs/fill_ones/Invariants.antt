-- The invariant: behind p places, as many of them active as records were handed out, what is left to hand out makes up the whole.
use mathlib.Core.Path.{◌≡◌}
use Prim.Native.Nat.{◌-◌, ◌≤◌, max}
use Rattle.slots.specs.Slots.{slots_of}
use Rattle.slots.specs.Inner.{Room}
use Rattle.masks.specs.Inner.{ones_past}
use Rattle.bits.specs.Inner.{hand_word, number_in, past}
use Rattle.slots.proofs.Laws.{Same}
use Rattle.bits.proofs.Laws.{Going}
use Rattle.bits.proofs.fill_ones.Given as goal

abbrev pub invariant-loop-i : goal.invariant-loop-i
invariant-loop-i l =
    (l.p ≤ l.word.left) × (l.i ≤ max l.slot l.limit) × (l.i - l.slot ≤ l.p) × (l.ones ≡ ones_past l.word.ones l.p)
    × Room l.limit (slots_of l.x l.y l.z l.level l.value) × Same (slots_of l.x l.y l.z l.level l.value) (slots_of l.initial.x l.initial.y l.initial.z l.initial.level l.initial.value)
    × Going l.i (hand_word l.s l.c (l.limit - l.i) (past l.word l.p (number_in l.word.inside l.p (l.i - l.slot)))) (slots_of l.x l.y l.z l.level l.value)
    l.slot (hand_word l.s l.c (l.limit - l.slot) l.word) (slots_of l.initial.x l.initial.y l.initial.z l.initial.level l.initial.value)
