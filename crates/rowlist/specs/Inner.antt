-- Inner matter: only contracts of inner functions cite it, and nothing here has to be believed.
-- An empty slot.
use Rattle.std.specs.Prelude.{pos}
use Rattle.rows.specs.declared.Record.{Record}

abbrev pub none : Record
none = record { x = pos 0; y = pos 0; z = pos 0; level = 0; value = 0 }
