-- Laws of the definitions, by which the functions' proofs go.
use mathlib.Core.Path.{◌≡◌}
use mathlib.Core.List.{List}
use Prim.Native.Nat.{ℕ}
use Rattle.fields.specs.Parse.{Parse}
use Rattle.fields.proofs.Ends.{Ends, fails-ends, field-ends, then-ends, made_ends, string-ends}
use Rattle.transform.specs.Transform.{map_kind_field, scale_field, scale_translate_field, map_field, transform}
use Rattle.transform.specs.declared.MapKind.{MapKind}
use Rattle.transform.specs.declared.MapKind.TheVariants as K
use Rattle.transform.specs.declared.Map.{Map}

-- a map is read by its kind, however that is known
pub of-kind : {kind kind' : MapKind} (s : List ℕ) (at : ℕ) {x : Parse Map} → kind ≡ kind' → x ≡ map_field s kind' at → x ≡ map_field s kind at
of-kind s at e h = rw e h

-- where a map's parts end
scale-ends : (s : List ℕ) (at : ℕ) → Ends s at (scale_field s at)
unfolding scale_field
scale-ends s at =
    then-ends s at _ _ (field-ends s at _ _) λ values p _.
    then-ends s p _ _ (field-ends s p _ _) λ size q _.
    then-ends s q _ _ (field-ends s q _ _) λ inverse r _.
    then-ends s r _ _ (field-ends s r _ _) λ sqr t _.
    made_ends s t _ _ (field-ends s t _ _)

map-ends : (kind : MapKind) (s : List ℕ) (at : ℕ) → Ends s at (map_field s kind at)
unfolding map_field scale_translate_field
map-ends K.Scale s at = made_ends s at _ _ (scale-ends s at)
map-ends K.ScaleTranslate s at = made_ends s at _ _ (then-ends s at _ _ (field-ends s at _ _) λ t p _. made_ends s p _ _ (scale-ends s p))
map-ends K.Other s at = fails-ends s at 14

-- the position after a transform lies in the file
pub transform-ends : (s : List ℕ) (at : ℕ) → Ends s at (transform s at)
unfolding transform map_kind_field
transform-ends s at = then-ends s at _ _ (made_ends s at _ _ (string-ends s at)) λ kind p _. map-ends kind s p
