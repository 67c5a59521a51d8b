-- The invariant: what is left to hand out from here is the whole; where slots are left, the next place is in this word.
use mathlib.Core.Path.{◌≡◌}
use mathlib.Core.Bool.{true}
use Prim.Native.Nat.{◌+◌, ◌-◌, ◌*◌, ◌<◌, ◌≤◌}
use Rattle.slots.specs.Slots.{slots_of}
use Rattle.slots.specs.Inner.{Room, Readable}
use Rattle.bits.specs.Inner.{hand_out}
use Rattle.records.specs.Inner.{Masks}
use Rattle.slots.proofs.Laws.{Same}
use Rattle.bits.proofs.Laws.{Going}
use Rattle.records.proofs.fill_words.Given as goal

abbrev pub invariant-loop-word : goal.invariant-loop-word
invariant-loop-word l =
    Readable l.s l.c l.room l.t.inside × Masks l.s l.n l.t.inside × (l.t.whole ≡ true)
    × (l.t.filled < l.limit → (64 * l._word ≤ l.t.inside.from) × (l.t.inside.from < 64 * l._word + 64))
    × Room l.limit (slots_of l.x l.y l.z l.level l.value) × Same (slots_of l.x l.y l.z l.level l.value) (slots_of l.initial.x l.initial.y l.initial.z l.initial.level l.initial.value)
    × Going l.t.filled (hand_out l.s l.c (l.limit - l.t.filled) l.t.inside (8 * l.n - l.t.inside.from)) (slots_of l.x l.y l.z l.level l.value)
    l.initial.t.filled (hand_out l.s l.c (l.limit - l.initial.t.filled) l.initial.t.inside (8 * l.n - l.initial.t.inside.from)) (slots_of l.initial.x l.initial.y l.initial.z l.initial.level l.initial.value)
