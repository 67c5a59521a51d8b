-- The doubles of an opened grid's transform lie in the file, right before its end, and their patterns there are those of the map.
use mathlib.Core.Path.{◌≡◌, refl, sym, ap, subst}
use mathlib.Core.List.{List}
use Prim.Native.Nat.{ℕ, ◌+◌, ◌-◌, ◌*◌, ◌≤◌}
use native.Mathlib.Omega.{arith}
use lib.ListN.{length}
use Rattle.fields.specs.Parse.{Parse, then, field}
use Rattle.fields.specs.Fields.{d_vec3_at}
use Rattle.fields.proofs.Laws.{Always, got-always, then-always, check-always, field_back}
use Rattle.transform.specs.Transform.{translated, scale_field, scale_translate_field, map_field, transform}
use Rattle.transform.specs.declared.MapKind.{MapKind}
use Rattle.transform.specs.declared.MapKind.TheVariants as K
use Rattle.transform.specs.declared.Scale.{Scale}
use Rattle.transform.specs.declared.Map.{Map}
use Rattle.transform.specs.declared.Map.TheVariants as M
use Rattle.fields.specs.Answer.{gives}
use Rattle.archive.specs.declared.Asked.{Asked}
use Rattle.fields.proofs.Answers.{with-back, answer_back, gives_same}
use Rattle.header.specs.declared.ArchiveHeader.{ArchiveHeader}
use Rattle.descriptor.specs.declared.GridDescriptor.{GridDescriptor}
use Rattle.grid.specs.Grid.{content_field, grid_field, grid, open_grid}
use Rattle.grid.specs.declared.OpenedGrid.{OpenedGrid}
use Rattle.outward.specs.Outward.{double_count, doubles_start}
use Rattle.outward.specs.Inner.{DoublesHeld}

-- the map of the same kind whose doubles stand at a position
abbrev scale_at : List ℕ → ℕ → Scale
scale_at s at = record {
  scale_values = d_vec3_at s at;
  voxel_size = d_vec3_at s (at + 24);
  scale_values_inverse = d_vec3_at s (at + 24 + 24);
  inv_scale_sqr = d_vec3_at s (at + 24 + 24 + 24);
  inv_twice_scale = d_vec3_at s (at + 24 + 24 + 24 + 24);
}

abbrev pub map_at : List ℕ → Map → ℕ → Map
map_at s (M.UniformScaleMap v) at = M.UniformScaleMap (scale_at s at)
map_at s (M.ScaleTranslateMap v) at = M.ScaleTranslateMap (translated (d_vec3_at s at) (scale_at s (at + 24)))

abbrev Held : List ℕ → Map → ℕ → Type 0
Held s map n = (8 * double_count map ≤ n) × (n ≤ length s) × (map ≡ map_at s map (n - 8 * double_count map))

-- a field is what it is, and ends where it does
read-always :
    {A B : Type 0} (P : B → ℕ → Type 0) (s : List ℕ) (at k : ℕ) (b : A) (f : A → ℕ → Parse B) → (at + k ≤ length s → Always P (f b (at + k))) → Always P (then (field s k b at) f)
read-always P s at k b f h = then-always P (field s k b at) f λ a p e. let c = field_back s at k b e in rw (c.1, c.2) (h c.0)

scale-held : (s : List ℕ) (at : ℕ) → Always (λ v n. (n ≡ at + 120) × (n ≤ length s) × (v ≡ scale_at s at)) (scale_field s at)
unfolding scale_field
scale-held s at =
    read-always _ s _ 24 _ _ λ a. read-always _ s _ 24 _ _ λ b. read-always _ s _ 24 _ _ λ c. read-always _ s _ 24 _ _ λ d. read-always _ s _ 24 _ _ λ e.
    got-always _ _ _ (omega arith, e, refl)

map-held : (kind : MapKind) (s : List ℕ) (at : ℕ) → Always (Held s) (map_field s kind at)
unfolding map_field scale_translate_field
map-held K.Scale s at = then-always _ _ _ λ v n e.
    let h = scale-held s at v n e in
    let p : n - 120 ≡ at = omega (arith, h.0) in
    got-always _ _ _ (omega (arith, h.0), h.1, rw p (ap M.UniformScaleMap h.2))
map-held K.ScaleTranslate s at = then-always _ _ _ λ w m x. got-always _ _ _ (both w m x)
  where
    both : Always (λ w n. (144 ≤ n) × (n ≤ length s) × (M.ScaleTranslateMap w ≡ map_at s (M.ScaleTranslateMap w) (n - 144))) (scale_translate_field s at)
    both = read-always _ s at 24 _ _ λ a. then-always _ _ _ λ v n e.
        let h = scale-held s (at + 24) v n e in
        let p : n - 144 ≡ at = omega (arith, h.0) in
        got-always _ _ _ (omega (arith, h.0), h.1, rw p (ap (λ (v : Scale). M.ScaleTranslateMap (translated (d_vec3_at s at) v)) h.2))
map-held K.Other s at = λ map n e. let z : ◌≡◌ {A = ℕ} 0 1 = cc in absurd (omega arith)

grid-held : (s : List ℕ) (h : ArchiveHeader) (d : GridDescriptor) → Always (λ g v. Held s g.map g.map_end) (grid_field s h d)
unfolding grid_field content_field transform
grid-held s h d =
    check-always _ _ _ _ λ a. check-always _ _ _ _ λ b. then-always _ _ _ λ map q f. then-always _ _ _ λ head r g.
    then-always _ _ _ λ roots t i. then-always _ _ _ λ filled v x.
    got-always _ _ _ (then-always _ _ _ (λ kind p y. map-held kind s p) map q f)

module _ (s : List ℕ) (asked : Asked) (name : List ℕ) (o : OpenedGrid) (e : gives o ≡ open_grid s asked name) where
  held : Held s o.transform o.transform_end
  unfolding open_grid grid
  held =
      let y = with-back (grid s asked name) _ e in
      let a = with-back _ _ y.1 in
      let b = with-back _ _ a.2 in
      let c = answer_back _ b.2 in
      let h = grid-held s a.0.header b.0 y.0 c.0 c.1 in
      subst (λ (o : OpenedGrid). Held s o.transform o.transform_end) (sym (gives_same y.2)) h

  pub opened-held : DoublesHeld s o
  opened-held = record { before = held.0; inside = held.1 }

  -- Section 3: the map's doubles are those whose patterns stand from `doubles_start` on.
  pub map-patterns : o.transform ≡ map_at s o.transform (doubles_start o)
  map-patterns = held.2
