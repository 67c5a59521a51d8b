-- Section 5 and N3: which places of a node are stored, and the run of the stored values, with checks 6 and 25 of section 8.
-- A node is given by the number n of bytes of its masks, its child mask's position `child` and its value mask's position `value`. A leaf has no
-- child mask, and none of its values depends on `child`.
use Rattle.std.specs.Prelude.{ℕ, ◌*◌, List, Bool, true, not, ◌&&◌, eqb, ℤ, pos, neg_ℤ}
use Rattle.std.specs.Int.Signed.{le_z}
use Rattle.fields.specs.Parse.{Parse, got, then, when, check}
use Rattle.fields.specs.Fields.{i64_field, bytes_field}
use Rattle.fields.specs.declared.Span.{Span}
use Rattle.coordinates.specs.Coordinates.{same_int}
use Rattle.masks.specs.Masks.{mask_bit, count_below}
use Rattle.forms.specs.Forms.{may_pack, head_field}
use Rattle.forms.specs.declared.Coding.{Coding}
use Rattle.forms.specs.declared.Stored.{Stored}
use Rattle.forms.specs.declared.Stored.TheVariants.{Every, Active, Childless}
use Rattle.runs.specs.declared.Values.{Values}

-- whether place p is stored
unfoldable pub is_stored : List ℕ → Stored → ℕ → ℕ → ℕ → Bool
is_stored s Every child value p = true
is_stored s Active child value p = mask_bit s value p
is_stored s Childless child value p = not (mask_bit s child p)

-- The number of the stored value of place p: how many places before p are stored. These are the ones of the value mask before p where only
-- active places are stored, the zeros of the child mask where those without a child are, else p itself.
abbrev pub number_of : List ℕ → Stored → ℕ → ℕ → ℕ → ℕ
number_of s stored child value p = count_below (is_stored s stored child value) p

-- how many values are stored: those numbered before the end of the node's 8 n places
abbrev pub count_of : List ℕ → Stored → ℕ → ℕ → ℕ → ℕ
count_of s stored n child value = number_of s stored child value (8 * n)

-- N3: whether a number stands before a run of so many values. It does where the flags say that runs may be packed; a run of no halves has none.
unfoldable pub is_sized : Coding → ℕ → Bool
is_sized c count = may_pack c.flags && not (eqb c.width 2 && eqb count 0)

-- N3: what the number before a run may be, where the run takes so many bytes as it is; p is behind the number. A positive one says that the run is packed,
-- check 6; any other has to be minus those bytes, check 25.
unfoldable pub size_checked : ℕ → ℤ → ℕ → Parse Unit
size_checked bytes number p =
    check (le_z number (pos 0)) 6
    (check (same_int number (neg_ℤ (pos bytes))) 25
    (got tt p))

-- the number before a run of so many values, where there is one
unfoldable pub number_field : List ℕ → Coding → ℕ → ℕ → Parse Unit
number_field s c count at =
    when (is_sized c count)
    (then (i64_field s at) λ number p. size_checked (count * c.width) number p)
    (got tt at)

-- a run of stored values, as start and length: the number, and behind it the values, one field
unfoldable pub run_field : List ℕ → Coding → ℕ → ℕ → Parse Span
run_field s c count at =
    then (number_field s c count at) λ u p.
    bytes_field s (count * c.width) p

-- the values of a node, or of a leaf
unfoldable pub values_field : List ℕ → Coding → Stored → ℕ → ℕ → ℕ → ℕ → Parse Values
values_field s c old n child value at =
    then (head_field s c old n at) λ head p.
    then (run_field s c (count_of s head.stored n child value) p) λ run e.
    got (record { stored = head.stored; inactives = head.inactives; start = run.start }) e
