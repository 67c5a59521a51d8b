-- Section 3: the transform, a map of one of two shapes with its vectors of doubles.
use Rattle.std.specs.Prelude.{ℕ, List}
use Rattle.fields.specs.Parse.{Parse, got, fails, then, when}
use Rattle.fields.specs.Fields.{d_vec3_field, string_field, bytes_of, same_bytes, ascii}
use Rattle.fields.specs.declared.DVec3.{DVec3}
use Rattle.transform.specs.declared.MapKind.{MapKind}
use Rattle.transform.specs.declared.MapKind.TheVariants as K
use Rattle.transform.specs.declared.Scale.{Scale}
use Rattle.transform.specs.declared.ScaleTranslate.{ScaleTranslate}
use Rattle.transform.specs.declared.Map.{Map}
use Rattle.transform.specs.declared.Map.TheVariants as M

-- the shape that a map's name stands for: two names for five vectors, two for six
unfoldable pub map_kind : List ℕ → MapKind
map_kind name =
    when (same_bytes name (ascii "UniformScaleMap")) K.Scale
    (when (same_bytes name (ascii "ScaleMap")) K.Scale
    (when (same_bytes name (ascii "UniformScaleTranslateMap")) K.ScaleTranslate
    (when (same_bytes name (ascii "ScaleTranslateMap")) K.ScaleTranslate K.Other)))

unfoldable pub map_kind_field : List ℕ → ℕ → Parse MapKind
map_kind_field s at = then (string_field s at) λ name p. got (map_kind (bytes_of s name)) p

-- the five vectors, named as in the Rust's transform and in its order
unfoldable pub scale_field : List ℕ → ℕ → Parse Scale
scale_field s at =
    then (d_vec3_field s at) λ values p.
    then (d_vec3_field s p) λ size q.
    then (d_vec3_field s q) λ inverse r.
    then (d_vec3_field s r) λ sqr t.
    then (d_vec3_field s t) λ twice n.
    got (record { scale_values = values; voxel_size = size; scale_values_inverse = inverse; inv_scale_sqr = sqr; inv_twice_scale = twice }) n

-- the five vectors of v with a translation
abbrev pub translated : DVec3 → Scale → ScaleTranslate
translated t v = record {
  translation = t;
  scale_values = v.scale_values;
  voxel_size = v.voxel_size;
  scale_values_inverse = v.scale_values_inverse;
  inv_scale_sqr = v.inv_scale_sqr;
  inv_twice_scale = v.inv_twice_scale;
}

-- the six vectors: the translation stands before the five
unfoldable pub scale_translate_field : List ℕ → ℕ → Parse ScaleTranslate
scale_translate_field s at =
    then (d_vec3_field s at) λ t p.
    then (scale_field s p) λ v n.
    got (translated t v) n

-- the vectors of a map of this shape; any other name is check 14
unfoldable pub map_field : List ℕ → MapKind → ℕ → Parse Map
map_field s K.Scale at = then (scale_field s at) λ v n. got (M.UniformScaleMap v) n
map_field s K.ScaleTranslate at = then (scale_translate_field s at) λ v n. got (M.ScaleTranslateMap v) n
map_field s K.Other at = fails 14

-- a map's name, then its vectors
unfoldable pub transform : List ℕ → ℕ → Parse Map
transform s at =
    then (map_kind_field s at) λ kind p.
    map_field s kind p
