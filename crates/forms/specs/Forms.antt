-- Section 5: what stands before a node's stored values, with check 19 of section 8.
-- A node is given by the number n of bytes of its masks.
use Rattle.std.specs.Prelude.{ℕ, ◌+◌, ◌-◌, ◌/◌, ◌%◌, List, Bool, not, ◌&&◌, ◌||◌, leb, ltb, eqb, Option, Some, None}
use Rattle.fields.specs.Parse.{Parse, got, then, when, check}
use Rattle.fields.specs.Fields.{u8_field, u32_field, bytes_field}
use Rattle.forms.specs.declared.Coding.{Coding}
use Rattle.forms.specs.declared.Form.{Form}
use Rattle.forms.specs.declared.Stored.{Stored}
use Rattle.forms.specs.declared.Stored.TheVariants.{Every, Active}
use Rattle.forms.specs.declared.Inactives.{Inactives}
use Rattle.forms.specs.declared.ValuesHead.{ValuesHead}

-- flags 0x1 and 0x4: runs of stored values may be packed
unfoldable pub may_pack : ℕ → Bool
may_pack flags = eqb (flags % 2) 1 || eqb (flags / 4 % 2) 1

-- What the node byte b says. 2, 4 and 5 bring an inactive value, 5 one more; with 1 and 3 minus the background stands for the first one; 3, 4 and
-- 5 bring a selection mask; 6 stores inactive places too, also under flag 0x2.
abbrev pub form_of : ℕ → Form
form_of b = record {
  has_first = eqb b 2 || eqb b 4 || eqb b 5;
  has_second = eqb b 5;
  negated = eqb b 1 || eqb b 3;
  has_selection = eqb b 3 || eqb b 4 || eqb b 5;
  only_active = not (eqb b 6);
}

-- check 19: the forms are 0 to 6
unfoldable pub form_selected : ℕ → ℕ → Parse Form
form_selected b p = check (leb b 6) 19 (got (form_of b) p)

-- The node byte. Before version 222 there is none, and as with byte 6 nothing is brought.
unfoldable pub form_field : List ℕ → ℕ → ℕ → Parse Form
form_field s version at =
    when (ltb version 222)
    (got (form_of 6) at)
    (then (u8_field s at) λ b p. form_selected b p)

-- minus a float, by its pattern (N1): the top bit flipped, also of a zero, an infinity and a NaN
unfoldable pub minus : ℕ → ℕ
minus v = when (ltb v 2147483648) (v + 2147483648) (v - 2147483648)

-- an inactive value, four bytes at either width; where none is brought, the one that stands for it
unfoldable pub inactive_field : List ℕ → Bool → ℕ → ℕ → Parse ℕ
inactive_field s brought other at = when brought (u32_field s at) (got other at)

-- where the selection mask stands, with a bit for each place, where one is brought
unfoldable pub selection_field : List ℕ → Bool → ℕ → ℕ → Parse (Option ℕ)
selection_field s brought n at =
    when brought
    (then (bytes_field s n at) λ w p. got (Some w.start) p)
    (got None at)

-- What the inactive places hold (N1): a first value, and a second one for those that are selected. Where the form brings none, the grid's background
-- stands for either, negated for the first where the form says so.
unfoldable pub inactives_field : List ℕ → ℕ → Form → ℕ → ℕ → Parse Inactives
inactives_field s background form n at =
    then (inactive_field s form.has_first (when form.negated (minus background) background) at) λ first p.
    then (inactive_field s form.has_second background p) λ second q.
    then (selection_field s form.has_selection n q) λ selection r.
    got (record { first = first; second = second; selection = selection }) r

-- flag 0x2
abbrev pub is_active_mask : ℕ → Bool
is_active_mask flags = eqb (flags / 2 % 2) 1

-- Which places are stored. Before version 222 it is `old`: for a node those without a child, for a leaf every one. From 222 on only active
-- places where flag 0x2 is set and the form allows it, else every one.
unfoldable pub stored_by : Coding → Stored → Form → Stored
stored_by c old form =
    when (ltb c.version 222) old
    (when (is_active_mask c.flags && form.only_active) Active Every)

-- what stands before the run of stored values
unfoldable pub head_field : List ℕ → Coding → Stored → ℕ → ℕ → Parse ValuesHead
head_field s c old n at =
    then (form_field s c.version at) λ form p.
    then (inactives_field s c.background form n p) λ inactives q.
    got (record { stored = stored_by c old form; inactives = inactives }) q
