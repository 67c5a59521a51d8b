-- What a parse of metadata reads: two files that are the same there give the same entries.
use mathlib.Core.Path.{◌≡◌, refl, ap, ◌∙◌}
use mathlib.Core.List.{List, [], ◌∷◌}
use mathlib.Core.Bool.{Bool}
use Rattle.std.proofs.Common.{Option, None, Some}
use Prim.Native.Nat.{ℕ, suc}
use Rattle.fields.specs.Parse.{got, when}
use Rattle.fields.specs.Fields.{same_bytes}
use Rattle.fields.specs.declared.Span.{Span}
use Rattle.fields.proofs.Agree.{Reads, reads, got-reads, swap-reads, u32-reads, bytes_same, Tells, got-tells, then-knows, then-tells, then-plain, many-tells, string-tells, keep, SameBytes, Each}
use Rattle.metadata.specs.Metadata.{kind_field, value_field, entry, metadata, latest, named, lookup}
use Rattle.metadata.specs.declared.NamedKind.{NamedKind}
use Rattle.metadata.specs.declared.Entry.{Entry}
use Rattle.metadata.specs.declared.ValueKind.{ValueKind}
use Rattle.metadata.specs.declared.ValueKind.TheVariants as K

kind-reads : {s t : List ℕ} {lo at : ℕ} → Reads s t lo at (kind_field s at) (kind_field t at)
unfolding kind_field
kind-reads = then-knows string-tells λ w p e x.
    swap-reads (λ l h. ap (λ (k : NamedKind). got k p) (rw (bytes_same w (x l h)))) got-reads

value-reads : {s t : List ℕ} {lo at : ℕ} (kind : ValueKind) (k : Span) (n : ℕ) → Reads s t lo at (value_field s kind k n at) (value_field t kind k n at)
unfolding value_field
value-reads K.String k n = search reads
value-reads K.Bool k n = search reads
value-reads K.Int32 k n = search reads
value-reads K.Int64 k n = search reads
value-reads K.Float k n = search reads
value-reads K.Vec3i k n = search reads
value-reads K.Other k n = search reads

-- the bytes of an entry's name are the same in both files
abbrev pub SameName : List ℕ → List ℕ → Entry → Type 0
SameName s t e = SameBytes s t e.name

pub entry-tells : {s t : List ℕ} {lo at : ℕ} → Tells s t lo at (SameName s t) (entry s at) (entry t at)
unfolding entry
entry-tells {s} {t} =
    then-tells string-tells λ name p e x. then-plain kind-reads λ k q f. then-plain u32-reads λ n r g. then-plain (value-reads k.kind k.name n) λ v u i.
    got-tells (SameName s t) (keep i (keep g (keep f x)))

pub metadata-tells : {s t : List ℕ} {lo at : ℕ} → Tells s t lo at (Each (SameName s t)) (metadata s at) (metadata t at)
unfolding metadata
metadata-tells = then-plain u32-reads λ n p e. many-tells _ λ u q. entry-tells

-- what is found is the same where the same members are asked for
pub latest-same :
    {A : Type 0} (P : A → Type 0) (f g : ℕ → A → Bool) → ((i : ℕ) (a : A) → P a → f i a ≡ g i a) → (i : ℕ) (l : List A) (best : Option A) → Each P l →
    latest f i l best ≡ latest g i l best
unfolding latest
latest-same P f g e i [] best h = refl
latest-same P f g e i (a ∷ l) best h = ap (λ (b : Bool). latest f (suc i) l (when b (Some a) best)) (e i a h.0) ∙ latest-same P f g e (suc i) l _ h.1

pub lookup-reads : {s t : List ℕ} {lo at : ℕ} (name : List ℕ) → Reads s t lo at (lookup s name at) (lookup t name at)
unfolding lookup
lookup-reads {s} {t} name = then-knows metadata-tells λ es n e x. swap-reads (λ l h. ap (λ (o : Option Entry). got o n) (same es (x l h))) got-reads
  where
    same : (es : List Entry) → Each (SameName s t) es → latest (named s name) 0 es None ≡ latest (named t name) 0 es None
    same es = latest-same (SameName s t) _ _ (λ i e h. ap (λ (b : List ℕ). same_bytes b name) (bytes_same e.name h)) 0 es None
