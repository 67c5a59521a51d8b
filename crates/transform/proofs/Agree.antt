-- What a transform's parse reads: two files that are the same there give the same map.
use mathlib.Core.Path.{ap}
use mathlib.Core.List.{List}
use Prim.Native.Nat.{ℕ}
use Rattle.fields.specs.Parse.{got}
use Rattle.fields.proofs.Agree.{Reads, reads, then-reads, got-reads, fails-reads, swap-reads, bytes_same, then-knows, string-tells}
use Rattle.transform.specs.Transform.{map_kind, map_kind_field, scale_field, scale_translate_field, map_field, transform}
use Rattle.transform.specs.declared.MapKind.{MapKind}
use Rattle.transform.specs.declared.MapKind.TheVariants as K

kind-reads : {s t : List ℕ} {lo at : ℕ} → Reads s t lo at (map_kind_field s at) (map_kind_field t at)
unfolding map_kind_field
kind-reads = then-knows string-tells λ name p e x. swap-reads (λ l h. ap (λ (b : List ℕ). got (map_kind b) p) (bytes_same name (x l h))) got-reads

scale-reads : {s t : List ℕ} {lo at : ℕ} → Reads s t lo at (scale_field s at) (scale_field t at)
unfolding scale_field
scale-reads = search reads depth 7

map-reads : {s t : List ℕ} {lo at : ℕ} (kind : MapKind) → Reads s t lo at (map_field s kind at) (map_field t kind at)
unfolding map_field scale_translate_field
map-reads K.Scale = search (reads, scale-reads)
map-reads K.ScaleTranslate = search (reads, scale-reads)
map-reads K.Other = fails-reads

pub transform-reads : {s t : List ℕ} {lo at : ℕ} → Reads s t lo at (transform s at) (transform t at)
unfolding transform
transform-reads = then-reads kind-reads λ kind p e. map-reads kind
