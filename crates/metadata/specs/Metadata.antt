-- Section 2: metadata.
use Rattle.std.specs.Prelude.{ℕ, suc, ◌-◌, List, [], ◌∷◌, Bool, not, eqb, Option, None, Some}
use Rattle.fields.specs.Parse.{Parse, got, then, when, times}
use Rattle.fields.specs.Fields.{u8_field, u32_field, i32_field, i64_field, i_vec3_field, bytes_field, string_field, bytes_of, same_bytes, ascii}
use Rattle.fields.specs.declared.Span.{Span}
use Rattle.metadata.specs.declared.ValueKind.{ValueKind}
use Rattle.metadata.specs.declared.ValueKind.TheVariants as K
use Rattle.metadata.specs.declared.NamedKind.{NamedKind}
use Rattle.metadata.specs.declared.MetadataValue.{MetadataValue}
use Rattle.metadata.specs.declared.MetadataValue.TheVariants as Val
use Rattle.metadata.specs.declared.Entry.{Entry}

-- the kind of value that a kind's name stands for; six names are known
unfoldable pub value_kind : List ℕ → ValueKind
value_kind k =
    when (same_bytes k (ascii "string")) K.String
    (when (same_bytes k (ascii "bool")) K.Bool
    (when (same_bytes k (ascii "int32")) K.Int32
    (when (same_bytes k (ascii "int64")) K.Int64
    (when (same_bytes k (ascii "float")) K.Float
    (when (same_bytes k (ascii "vec3i")) K.Vec3i K.Other)))))

-- the name of a kind, with what it stands for
unfoldable pub kind_field : List ℕ → ℕ → Parse NamedKind
kind_field s at = then (string_field s at) λ w p. got (record { name = w; kind = value_kind (bytes_of s w) }) p

-- a field's value as a metadata value
abbrev pub as_value : {A : Type 0} → (A → MetadataValue) → Parse A → Parse MetadataValue
as_value f p = then p (λ a n. got (f a) n)

-- The value of an entry whose kind's name is k and whose length field is n. Only a string and a value of an unknown kind have that length; the five
-- others have the length of their kind, whatever n is. A bool is true where its byte is not zero; a float is its pattern; a value of an unknown
-- kind is given as the kind's name and its bytes.
unfoldable pub value_field : List ℕ → ValueKind → Span → ℕ → ℕ → Parse MetadataValue
value_field s K.String k n at = as_value Val.String (bytes_field s n at)
value_field s K.Bool k n at = as_value (λ (b : ℕ). Val.Bool (not (eqb b 0))) (u8_field s at)
value_field s K.Int32 k n at = as_value Val.I32 (i32_field s at)
value_field s K.Int64 k n at = as_value Val.I64 (i64_field s at)
value_field s K.Float k n at = as_value Val.Float (u32_field s at)
value_field s K.Vec3i k n at = as_value Val.Vec3i (i_vec3_field s at)
value_field s K.Other k n at = as_value (Val.Unknown k) (bytes_field s n at)

-- an entry: its name, its kind's name, a length, the value; `whole` is where all of it stands
unfoldable pub entry : List ℕ → ℕ → Parse Entry
entry s at =
    then (string_field s at) λ name p.
    then (kind_field s p) λ k q.
    then (u32_field s q) λ n r.
    then (value_field s k.kind k.name n r) λ v e.
    got (record { name = name; value = v; whole = record { start = at; len = e - at } }) e

-- how many entries there are, and these
unfoldable pub metadata : List ℕ → ℕ → Parse (List Entry)
metadata s at = then (u32_field s at) λ n p. times (entry s) n p

-- Of a list's members, numbered from i, the last that is asked for: each one replaces what was found before it.
unfoldable pub latest : {A : Type 0} → (ℕ → A → Bool) → ℕ → List A → Option A → Option A
latest asked i [] best = best
latest asked i (a ∷ rest) best = latest asked (suc i) rest (when (asked i a) (Some a) best)

-- an entry of this name
abbrev pub named : List ℕ → List ℕ → ℕ → Entry → Bool
named s name i e = same_bytes (bytes_of s e.name) name

-- the metadata at `at`, of which the entry of this name is asked for: of several, the last
unfoldable pub lookup : List ℕ → List ℕ → ℕ → Parse (Option Entry)
lookup s name at = then (metadata s at) λ es n. got (latest (named s name) 0 es None) n
