-- A stored place has the stored value with its number, another an inactive value.
use mathlib.Core.Path.{sym, ◌∙◌}
use Rattle.fields.specs.Parse.{when}
use Rattle.fields.proofs.Steps.{steps}
use Rattle.values.specs.Values.{place_value}
use Rattle.values.proofs.Laws.{held_place}
use Rattle.values.proofs.place_value.Goals as goal

pub stored_value-requires : goal.stored_value-requires
unfolding place_value when
stored_value-requires c = let p = c.requires in
    (p.0.width, held_place p.0 p.1 c.number_of-k.ensures (sym c.is_stored.ensures ∙ c.if-is_stored.true))

pub returns-then-is_stored : goal.returns-then-is_stored
unfolding place_value when
returns-then-is_stored c = rw (← c.is_stored.ensures, c.if-is_stored.true, ← c.number_of-k.ensures) c.stored_value.ensures

pub returns : goal.returns
unfolding place_value when
returns c = search steps
