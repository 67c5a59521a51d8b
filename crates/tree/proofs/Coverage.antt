-- Section 7 and demand 3: the active list covers each voxel that the masks make active, once, and no other.
use mathlib.Core.Path.{◌≡◌, refl, sym, ap, ◌∙◌}
use mathlib.Core.Logic.{◌↔◌}
use mathlib.Core.List.Memᴰ
use mathlib.Core.List.{List, [], ◌∷◌, Memᴰ}
use mathlib.Core.Bool.{Bool, true, false}
use Prim.Native.Nat.{ℕ, ◌≤◌, ◌<◌}
use native.Mathlib.Omega.{arith}
use lib.ListN.{length, get_or}
use Rattle.fields.specs.Parse.{got, when}
use Rattle.coordinates.specs.declared.GlobalCoord.{GlobalCoord}
use Rattle.forms.specs.declared.Coding.{Coding}
use Rattle.roots.specs.Roots.{is_among}
use Rattle.tree.specs.Topology.{Node5, roots_field}
use Rattle.tree.specs.Blocks.{Filled5, blocks_field}
use Rattle.tree.specs.Active.{Record, Spot, covered_by, pieces, records_of, active_list, spot}
use Rattle.tree.specs.Inner.{covering, record_named}
use Rattle.tree.proofs.Lists.{kept-flat_map, kept_from, kept-to, kept-two}
use Rattle.tree.proofs.Read.{roots-read, same-tree}
use Rattle.tree.proofs.Cover.{roots-cover}

named-to : (t : Spot) (r : Record) → Memᴰ r (record_named t) → (t.active ≡ true) × (t.place ≡ r)
unfolding when
named-to t r = go t.active
  where
    go : (b : Bool) → Memᴰ r (when b (t.place ∷ []) []) → (b ≡ true) × (t.place ≡ r)
    go true m = (refl, sym (Memᴰ.eq_of_singleton m))
    go false m = absurd (Memᴰ.not-nil m)

named-from : (t : Spot) (r : Record) → t.active ≡ true → t.place ≡ r → Memᴰ r (record_named t)
unfolding when
named-from t r e p = rw e (Memᴰ.head (sym p))

named-length : (t : Spot) → length (record_named t) ≤ 1
unfolding when
named-length t = go t.active
  where
    go : (b : Bool) → length (when b (t.place ∷ []) []) ≤ 1
    go true = omega arith
    go false = omega arith

-- Roots that were read from the bytes s, and the blocks that were read for them, wherever they stand.
pub record Parsed (s : List ℕ) (c : Coding) (roots : List Node5) (filled : List Filled5) : Type 0 where
  pub count : ℕ
  pub start : ℕ
  pub end : ℕ
  pub block : ℕ
  pub past : ℕ
  pub roots-read : got roots end ≡ roots_field s c count [] start
  pub blocks-read : got filled past ≡ blocks_field s c roots block

-- Whatever value the background has, of which no record is made.
module _ {s : List ℕ} {c : Coding} {roots : List Node5} {filled : List Filled5} (t : Parsed s c roots filled) (background : ℕ) where
  -- The records of the active list that cover a voxel, in list order: the one that the descent names, where it says active, else none.
  pub coverage : (v : GlobalCoord) → covering v (active_list s c filled) ≡ record_named (spot s c background filled v)
  unfolding pieces is_among when
  coverage v =
      kept-flat_map (λ r. covered_by r v) (records_of s c) (pieces filled)
      ∙ roots-cover s c v background roots filled [] (roots-read t.count [] s c t.start roots t.end t.roots-read)
      (same-tree s c roots t.block filled t.past t.blocks-read)

  -- A record is listed and covers a voxel exactly when the descent says that the voxel is active, with this record's corner, level and value.
  pub listed-covers : (r : Record) (v : GlobalCoord) →
      (Memᴰ r (active_list s c filled) × (covered_by r v ≡ true)) ↔ (((spot s c background filled v).active ≡ true) × ((spot s c background filled v).place ≡ r))
  unfolding when
  listed-covers r v = (
    λ h. named-to _ r (rw (coverage v) at (kept_from (λ r. covered_by r v) r (active_list s c filled) h.0 h.1)),
    λ h. kept-to (λ r. covered_by r v) r (active_list s c filled) (rw (coverage v) (named-from _ r h.0 h.1)),
  )

  -- A voxel is covered by a listed record exactly when the descent says that it is active.
  pub covered-spot : (v : GlobalCoord) → ((r : Record) × Memᴰ r (active_list s c filled) × (covered_by r v ≡ true)) ↔ ((spot s c background filled v).active ≡ true)
  covered-spot v = (
    λ h. ((listed-covers h.0 v).0 (h.1, h.2)).0,
    λ h. let k = (listed-covers _ v).1 (h, refl) in (_, k.0, k.1),
  )

  -- No two records of the list cover a common voxel.
  pub records-apart :
      (v : GlobalCoord) (i j : ℕ) (d : Record) → i < j → j < length (active_list s c filled) → covered_by (get_or (active_list s c filled) i d) v ≡ true →
      covered_by (get_or (active_list s c filled) j d) v ≡ true → ⊥
  records-apart v i j d h k x y =
      omega (arith, kept-two (λ r. covered_by r v) (active_list s c filled) i j d h k x y, ap length (coverage v), named-length (spot s c background filled v))
