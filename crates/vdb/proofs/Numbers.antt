-- A refusal has a number of the table, so a call that returns 0 was not refused: it gave an answer, and what was lent holds its words. So what a caller
-- in another language sees is enough for `walks`.
use mathlib.Core.Path.{◌≡◌, refl, sym, ap, ◌∙◌}
use mathlib.Core.List.{List, [], ◌∷◌, ◌++◌}
use mathlib.Core.Bool.{Bool, true, false, ◌&&◌, ◌||◌, true≢false}
use Rattle.std.proofs.Common.{Option, None, Some}
use Prim.Native.Nat.{ℕ, zero, suc, ◌-◌}
use native.Mathlib.Omega.{arith}
use lib.Dec.{ltb, leb, eqb}
use lib.ListN.{take}
use Rattle.fields.specs.Parse.{Parse, got, fails, then, when, check, field, many}
use Rattle.fields.specs.Fields.{string_field}
use Rattle.fields.specs.declared.Span.{Span}
use Rattle.metadata.specs.Metadata.{kind_field, value_field, entry, metadata, lookup}
use Rattle.metadata.specs.declared.MetadataValue.{MetadataValue}
use Rattle.metadata.specs.declared.ValueKind.{ValueKind}
use Rattle.metadata.specs.declared.ValueKind.TheVariants as K
use Rattle.header.specs.Header.{magic_field, version_field, offsets_field, packed_field, front_field, count_field, header}
use Rattle.header.specs.declared.ArchiveHeader.{ArchiveHeader}
use Rattle.descriptor.specs.Descriptor.{names_field, position_field, positions_field, flags_field, descriptor}
use Rattle.descriptor.specs.declared.GridDescriptor.{GridDescriptor}
use Rattle.fields.specs.Answer.{Answer, gives, refuses, answer, with}
use Rattle.fields.specs.Says.{says_answer}
use Rattle.archive.specs.Archive.{present, descriptors, file, open_file, file_asked, grid_asked, entry_at, file_entry, grid_entry}
use Rattle.archive.specs.declared.Asked.{Asked}
use Rattle.transform.specs.Transform.{map_kind_field, scale_field, scale_translate_field, map_field, transform}
use Rattle.transform.specs.declared.MapKind.{MapKind}
use Rattle.transform.specs.declared.MapKind.TheVariants as MK
use Rattle.coordinates.specs.declared.GlobalCoord.{GlobalCoord}
use Rattle.forms.specs.Forms.{form_selected, form_field, inactive_field, selection_field, inactives_field, head_field}
use Rattle.runs.specs.Runs.{size_checked, number_field, run_field, values_field}
use Rattle.forms.specs.declared.Coding.{Coding}
use Rattle.forms.specs.declared.Form.{Form}
use Rattle.forms.specs.declared.Stored.{Stored}
use Rattle.nodes.specs.Nodes.{node_field, old_field, block_field}
use Rattle.nodes.specs.Nodes as N
use Rattle.nodes.specs.declared.Block.{Block}
use Rattle.nodes.specs.declared.Leaf.{Leaf}
use Rattle.roots.specs.Roots.{root_count_field, tiles_field, tree_head_field, origin_field}
use Rattle.roots.specs.Roots as R
use Rattle.tree.specs.Topology.{Node4, Node5, leaf_field, node4_field, node5_field, root_field, roots_field}
use Rattle.tree.specs.Blocks.{filled4, filled5}
use Rattle.grid.specs.Grid.{coding_of, root_limit, content_field, grid_field, grid, open_grid}
use Rattle.grid.specs.declared.OpenedGrid.{OpenedGrid}
use Rattle.leaves.specs.Leaves.{leaf_numbered, present_leaf, fill_leaf, fill_leaves}
use Rattle.origins.specs.Origins.{Axes, leaf_origins}
use Rattle.slots.specs.Slots.{Slots}
use Rattle.walk.specs.declared.Walked.{Walked}
use Rattle.words.specs.Words.{at, layout, has_layout, start_by, place_by, start_words, words_of}
use Rattle.outward.specs.Outward.{laid}
use Rattle.grid_calls.specs.Calls.{open_words, walk_words, OpenCall, WalkCall}
use Rattle.vdb.specs.Calls.{WordCall, Chained, Walks}
use Rattle.vdb.proofs.Calls.{walks}

-- a number of section 8's table, to which N3 adds 25
abbrev pub in_table : ℕ → Bool
in_table k = ltb 0 k && (leb k 22 || eqb k 25)

-- a parse, and an answer, whose refusals have such a number
abbrev pub Numbered : {A : Type 0} → Parse A → Type 0
Numbered (got a n) = Unit {0}
Numbered (fails k) = in_table k ≡ true

abbrev pub Answers : {A : Type 0} → Answer A → Type 0
Answers (gives a) = Unit {0}
Answers (refuses k) = in_table k ≡ true

then-n : {A B : Type 0} (m : Parse A) (f : A → ℕ → Parse B) → Numbered m → ((a : A) (p : ℕ) → Numbered (f a p)) → Numbered (then m f)
unfolding then
then-n (got a n) f x y = y a n
then-n (fails k) f x y = x

check-n : {A : Type 0} (ok : Bool) (k : ℕ) (p : Parse A) → in_table k ≡ true → Numbered p → Numbered (check ok k p)
unfolding check
check-n true k p h x = x
check-n false k p h x = h

when-n : {A : Type 0} (b : Bool) (p q : Parse A) → Numbered p → Numbered q → Numbered (when b p q)
unfolding when
when-n true p q x y = x
when-n false p q x y = y

field-n : {A : Type 0} (s : List ℕ) (n : ℕ) (a : A) (at : ℕ) → Numbered (field s n a at)
unfolding field
field-n s n a at = check-n _ 2 _ refl tt

many-n : {A B : Type 0} (f : A → ℕ → Parse B) → ((a : A) (p : ℕ) → Numbered (f a p)) → (l : List A) (at : ℕ) → Numbered (many f l at)
unfolding many
many-n f h [] at = tt
many-n f h (a ∷ l) at = then-n _ _ (h a at) λ b p. then-n _ _ (many-n f h l p) λ bs q. tt

-- sections 1 and 2
string-n : (s : List ℕ) (at : ℕ) → Numbered (string_field s at)
unfolding string_field
string-n s at = then-n _ _ (field-n s 4 _ at) λ n p. field-n s n _ p

kind-n : (s : List ℕ) (at : ℕ) → Numbered (kind_field s at)
unfolding kind_field
kind-n s at = then-n _ _ (string-n s at) λ w p. tt

value-n : (s : List ℕ) (k : ValueKind) (w : Span) (n at : ℕ) → Numbered (value_field s k w n at)
unfolding value_field
value-n s K.String w n at = then-n _ _ (field-n s n _ at) λ a p. tt
value-n s K.Bool w n at = then-n _ _ (field-n s 1 _ at) λ a p. tt
value-n s K.Int32 w n at = then-n _ _ (field-n s 4 _ at) λ a p. tt
value-n s K.Int64 w n at = then-n _ _ (field-n s 8 _ at) λ a p. tt
value-n s K.Float w n at = then-n _ _ (field-n s 4 _ at) λ a p. tt
value-n s K.Vec3i w n at = then-n _ _ (field-n s 12 _ at) λ a p. tt
value-n s K.Other w n at = then-n _ _ (field-n s n _ at) λ a p. tt

entry-n : (s : List ℕ) (at : ℕ) → Numbered (entry s at)
unfolding entry
entry-n s at = then-n _ _ (string-n s at) λ a p. then-n _ _ (kind-n s p) λ k q. then-n _ _ (field-n s 4 _ q) λ n r. then-n _ _ (value-n s k.kind k.name n r) λ v e. tt

metadata-n : (s : List ℕ) (at : ℕ) → Numbered (metadata s at)
unfolding metadata
metadata-n s at = then-n _ _ (field-n s 4 _ at) λ n p. many-n _ (λ u q. entry-n s q) _ p

lookup-n : (s name : List ℕ) (at : ℕ) → Numbered (lookup s name at)
unfolding lookup
lookup-n s name at = then-n _ _ (metadata-n s at) λ es n. tt

magic-n : (s : List ℕ) (at : ℕ) → Numbered (magic_field s at)
unfolding magic_field
magic-n s at = then-n _ _ (field-n s 8 _ at) λ m p. check-n _ 3 _ refl tt

version-n : (s : List ℕ) (at : ℕ) → Numbered (version_field s at)
unfolding version_field
version-n s at = then-n _ _ (field-n s 4 _ at) λ m p. check-n _ 4 _ refl tt

offsets-n : (s : List ℕ) (at : ℕ) → Numbered (offsets_field s at)
unfolding offsets_field
offsets-n s at = then-n _ _ (field-n s 1 _ at) λ m p. check-n _ 5 _ refl tt

packed-n : (s : List ℕ) (v at : ℕ) → Numbered (packed_field s v at)
unfolding packed_field
packed-n s v at = when-n _ _ _ (then-n _ _ (field-n s 1 _ at) λ b p. tt) tt

front-n : (s : List ℕ) (at : ℕ) → Numbered (front_field s at)
unfolding front_field
front-n s at =
    then-n _ _ (magic-n s at) λ u o. then-n _ _ (version-n s o) λ v p. then-n _ _ (field-n s 4 _ p) λ a q. then-n _ _ (field-n s 4 _ q) λ b r.
    then-n _ _ (offsets-n s r) λ one t. then-n _ _ (packed-n s v t) λ packed n. tt

count-n : (s : List ℕ) (at : ℕ) → Numbered (count_field s at)
unfolding count_field
count-n s at = then-n _ _ (field-n s 4 _ at) λ m p. check-n _ 8 _ refl tt

header-n : (s : List ℕ) → Numbered (header s)
unfolding header
header-n s = check-n _ 1 _ refl
    (then-n _ _ (front-n s 0) λ front p. then-n _ _ (field-n s 36 _ p) λ identity q. then-n _ _ (metadata-n s q) λ es r. then-n _ _ (count-n s r) λ c n. tt)

names-n : (s : List ℕ) (at : ℕ) → Numbered (names_field s at)
unfolding names_field
names-n s at = then-n _ _ (string-n s at) λ a p. then-n _ _ (string-n s p) λ b q. then-n _ _ (string-n s q) λ c n. tt

position-n : (s : List ℕ) (at : ℕ) → Numbered (position_field s at)
unfolding position_field
position-n s at = then-n _ _ (field-n s 8 _ at) λ m p. check-n _ 9 _ refl tt

positions-n : (s : List ℕ) (at : ℕ) → Numbered (positions_field s at)
unfolding positions_field
positions-n s at = then-n _ _ (position-n s at) λ a p. then-n _ _ (position-n s p) λ b q. then-n _ _ (position-n s q) λ c n. tt

flags-n : (s : List ℕ) (v : ℕ) (packed : Bool) (at : ℕ) → Numbered (flags_field s v packed at)
unfolding flags_field
flags-n s v packed at = when-n _ _ _ tt (then-n _ _ (field-n s 4 _ at) λ f p. check-n _ 7 _ refl tt)

descriptor-n : (s : List ℕ) (h : ArchiveHeader) (at : ℕ) → Numbered (descriptor s h at)
unfolding descriptor
descriptor-n s h at =
    then-n _ _ (names-n s at) λ names p. then-n _ _ (positions-n s p) λ places q. then-n _ _ (flags-n s _ _ _) λ flags m. then-n _ _ (lookup-n s _ m) λ half n. tt

descriptors-n : (s : List ℕ) (h : ArchiveHeader) (k : ℕ) (earlier : List Span) (at : ℕ) → Numbered (descriptors s h k earlier at)
unfolding descriptors
descriptors-n s h zero earlier at = tt
descriptors-n s h (suc k) earlier at =
    then-n _ _ (descriptor-n s h at) λ d p. check-n _ 10 _ refl (then-n _ _ (descriptors-n s h k (earlier ++ (d.name ∷ [])) p) λ ds q. tt)

file-n : (s : List ℕ) → Numbered (file s)
unfolding file
file-n s = then-n _ _ (header-n s) λ h p. then-n _ _ (descriptors-n s h _ [] p) λ ds q. tt

-- section 3
map-kind-n : (s : List ℕ) (at : ℕ) → Numbered (map_kind_field s at)
unfolding map_kind_field
map-kind-n s at = then-n _ _ (string-n s at) λ w p. tt

scale-n : (s : List ℕ) (at : ℕ) → Numbered (scale_field s at)
unfolding scale_field
scale-n s at =
    then-n _ _ (field-n s 24 _ at) λ a p. then-n _ _ (field-n s 24 _ p) λ b q. then-n _ _ (field-n s 24 _ q) λ c r. then-n _ _ (field-n s 24 _ r) λ d t.
    then-n _ _ (field-n s 24 _ t) λ e n. tt

translate-n : (s : List ℕ) (at : ℕ) → Numbered (scale_translate_field s at)
unfolding scale_translate_field
translate-n s at = then-n _ _ (field-n s 24 _ at) λ a p. then-n _ _ (scale-n s p) λ b q. tt

map-n : (s : List ℕ) (k : MapKind) (at : ℕ) → Numbered (map_field s k at)
unfolding map_field
map-n s MK.Scale at = then-n _ _ (scale-n s at) λ a p. tt
map-n s MK.ScaleTranslate at = then-n _ _ (translate-n s at) λ a p. tt
map-n s MK.Other at = refl

transform-n : (s : List ℕ) (at : ℕ) → Numbered (transform s at)
unfolding transform
transform-n s at = then-n _ _ (map-kind-n s at) λ k p. map-n s k p

-- section 5
selected-n : (b p : ℕ) → Numbered (form_selected b p)
unfolding form_selected
selected-n b p = check-n _ 19 _ refl tt

form-n : (s : List ℕ) (v at : ℕ) → Numbered (form_field s v at)
unfolding form_field
form-n s v at = when-n _ _ _ tt (then-n _ _ (field-n s 1 _ at) λ b p. selected-n b p)

inactive-n : (s : List ℕ) (b : Bool) (other at : ℕ) → Numbered (inactive_field s b other at)
unfolding inactive_field
inactive-n s b other at = when-n _ _ _ (field-n s 4 _ at) tt

selection-n : (s : List ℕ) (b : Bool) (n at : ℕ) → Numbered (selection_field s b n at)
unfolding selection_field
selection-n s b n at = when-n _ _ _ (then-n _ _ (field-n s n _ at) λ w p. tt) tt

inactives-n : (s : List ℕ) (background : ℕ) (form : Form) (n at : ℕ) → Numbered (inactives_field s background form n at)
unfolding inactives_field
inactives-n s background form n at = then-n _ _ (inactive-n s _ _ at) λ a p. then-n _ _ (inactive-n s _ _ p) λ b q. then-n _ _ (selection-n s _ n q) λ c r. tt

head-n : (s : List ℕ) (c : Coding) (old : Stored) (n at : ℕ) → Numbered (head_field s c old n at)
unfolding head_field
head-n s c old n at = then-n _ _ (form-n s _ at) λ form p. then-n _ _ (inactives-n s _ form n p) λ i q. tt

number-n : (s : List ℕ) (c : Coding) (count at : ℕ) → Numbered (number_field s c count at)
unfolding number_field size_checked
number-n s c count at = when-n _ _ _ (then-n _ _ (field-n s 8 _ at) λ n p. check-n _ 6 _ refl (check-n _ 25 _ refl tt)) tt

run-n : (s : List ℕ) (c : Coding) (count at : ℕ) → Numbered (run_field s c count at)
unfolding run_field
run-n s c count at = then-n _ _ (number-n s c count at) λ u p. field-n s _ _ p

values-n : (s : List ℕ) (c : Coding) (old : Stored) (n child value at : ℕ) → Numbered (values_field s c old n child value at)
unfolding values_field
values-n s c old n child value at = then-n _ _ (head-n s c old n at) λ head p. then-n _ _ (run-n s c _ p) λ run e. tt

-- sections 4 and 6
node-n : (s : List ℕ) (c : Coding) (n at : ℕ) → Numbered (node_field s c n at)
unfolding node_field
node-n s c n at =
    then-n _ _ (field-n s n _ at) λ child p. then-n _ _ (field-n s n _ p) λ value q.
    check-n _ 18 _ refl (then-n _ _ (values-n s c _ n _ _ q) λ v r. tt)

leaf-buffers-n : (s : List ℕ) (at : ℕ) → Numbered (N.leaf_buffers_field s at)
unfolding N.leaf_buffers_field
leaf-buffers-n s at = then-n _ _ (field-n s 1 _ at) λ b p. check-n _ 20 _ refl tt

old-n : (s : List ℕ) (v : ℕ) (o : GlobalCoord) (at : ℕ) → Numbered (old_field s v o at)
unfolding old_field
old-n s v o at = when-n _ _ _ (then-n _ _ (field-n s 12 _ at) λ b p. check-n _ 20 _ refl (leaf-buffers-n s p)) tt

block-n : (s : List ℕ) (c : Coding) (leaf : Leaf) (at : ℕ) → Numbered (block_field s c leaf at)
unfolding block_field
block-n s c leaf at =
    then-n _ _ (field-n s 64 _ at) λ mask p.
    check-n _ 20 _ refl (then-n _ _ (old-n s _ _ p) λ u q. then-n _ _ (values-n s c _ 64 _ _ q) λ v r. tt)

buffers-n : (s : List ℕ) (at : ℕ) → Numbered (R.buffers_field s at)
unfolding R.buffers_field
buffers-n s at = then-n _ _ (field-n s 4 _ at) λ b p. check-n _ 15 _ refl tt

root-count-n : (s : List ℕ) (limit at : ℕ) → Numbered (root_count_field s limit at)
unfolding root_count_field
root-count-n s limit at = then-n _ _ (field-n s 4 _ at) λ b p. check-n _ 16 _ refl tt

tiles-n : (s : List ℕ) (n at : ℕ) → Numbered (tiles_field s n at)
unfolding tiles_field
tiles-n s n at = then-n _ _ (many-n _ (λ u p. field-n s 17 _ p) _ at) λ t p. tt

tree-head-n : (s : List ℕ) (limit at : ℕ) → Numbered (tree_head_field s limit at)
unfolding tree_head_field
tree-head-n s limit at =
    then-n _ _ (buffers-n s at) λ a p. then-n _ _ (field-n s 4 _ p) λ b q. then-n _ _ (field-n s 4 _ q) λ tiles r. then-n _ _ (root-count-n s limit r) λ roots t.
    then-n _ _ (tiles-n s tiles t) λ x n. tt

origin-n : (s : List ℕ) (earlier : List GlobalCoord) (at : ℕ) → Numbered (origin_field s earlier at)
unfolding origin_field
origin-n s earlier at = then-n _ _ (field-n s 12 _ at) λ b p. check-n _ 17 _ refl tt

leaf-n : (s : List ℕ) (o : GlobalCoord) (p at : ℕ) → Numbered (leaf_field s o p at)
unfolding leaf_field
leaf-n s o p at = then-n _ _ (field-n s 64 _ at) λ m q. tt

node4-n : (s : List ℕ) (c : Coding) (o : GlobalCoord) (at : ℕ) → Numbered (node4_field s c o at)
unfolding node4_field
node4-n s c o at = then-n _ _ (node-n s c 512 at) λ h p. then-n _ _ (many-n _ (λ q r. leaf-n s o q r) _ p) λ l q. tt

node5-n : (s : List ℕ) (c : Coding) (o : GlobalCoord) (at : ℕ) → Numbered (node5_field s c o at)
unfolding node5_field
node5-n s c o at = then-n _ _ (node-n s c 4096 at) λ h p. then-n _ _ (many-n _ (λ q r. node4-n s c _ r) _ p) λ l q. tt

root-n : (s : List ℕ) (c : Coding) (earlier : List GlobalCoord) (at : ℕ) → Numbered (root_field s c earlier at)
unfolding root_field
root-n s c earlier at = then-n _ _ (origin-n s earlier at) λ o p. node5-n s c o p

roots-n : (s : List ℕ) (c : Coding) (k : ℕ) (earlier : List GlobalCoord) (at : ℕ) → Numbered (roots_field s c k earlier at)
unfolding roots_field
roots-n s c zero earlier at = tt
roots-n s c (suc k) earlier at = then-n _ _ (root-n s c earlier at) λ n p. then-n _ _ (roots-n s c k (earlier ++ (n.origin ∷ [])) p) λ ns q. tt

filled4-n : (s : List ℕ) (c : Coding) (n : Node4) (at : ℕ) → Numbered (filled4 s c n at)
unfolding filled4
filled4-n s c n at = then-n _ _ (many-n _ (λ l p. block-n s c l p) _ at) λ bs p. tt

filled5-n : (s : List ℕ) (c : Coding) (n : Node5) (at : ℕ) → Numbered (filled5 s c n at)
unfolding filled5
filled5-n s c n at = then-n _ _ (many-n _ (λ l p. filled4-n s c l p) _ at) λ bs p. tt

-- section 8
content-n : (s : List ℕ) (h : ArchiveHeader) (d : GridDescriptor) → Numbered (content_field s h d)
unfolding content_field
content-n s h d =
    then-n _ _ (transform-n s _) λ map p. then-n _ _ (tree-head-n s root_limit p) λ head q. then-n _ _ (roots-n s (coding_of h d head) _ [] q) λ roots r.
    then-n _ _ (many-n _ (λ l v. filled5-n s (coding_of h d head) l v) _ _) λ filled v. tt

grid-field-n : (s : List ℕ) (h : ArchiveHeader) (d : GridDescriptor) → Numbered (grid_field s h d)
unfolding grid_field
grid-field-n s h d = check-n _ 12 _ refl (check-n _ 13 _ refl (content-n s h d))

answer-n : {A : Type 0} (m : Parse A) → Numbered m → Answers (answer m)
unfolding answer
answer-n (got a n) x = tt
answer-n (fails k) x = x

with-n : {A B : Type 0} (m : Answer A) (f : A → Answer B) → Answers m → ((a : A) → Answers (f a)) → Answers (with m f)
unfolding with
with-n (gives a) f x y = y a
with-n (refuses k) f x y = x

present-n : {A : Type 0} (o : Option A) → Answers (present o)
unfolding present
present-n None = refl
present-n (Some a) = tt

-- ---- The answers of the calls.
file-asked-n : (s : List ℕ) (asked : Asked) (name : List ℕ) → Answers (file_asked s asked name)
unfolding file_asked
file-asked-n s asked name = with-n _ _ (answer-n _ (file-n s)) λ f. tt

open-file-n : (s : List ℕ) → Answers (open_file s)
unfolding open_file
open-file-n s = with-n _ _ (answer-n _ (file-n s)) λ f. tt

asked-n : (s : List ℕ) (asked : Asked) (name : List ℕ) → Answers (grid_asked s asked name)
unfolding grid_asked
asked-n s asked name = with-n _ _ (file-asked-n s asked name) λ o. present-n o.grid

entry-at-n : (s name : List ℕ) (at : ℕ) → Answers (entry_at s name at)
unfolding entry_at
entry-at-n s name at = with-n _ _ (answer-n _ (lookup-n s name at)) λ e. with-n _ _ (present-n e) λ found. tt

grid-n : (s : List ℕ) (asked : Asked) (name : List ℕ) → Answers (grid s asked name)
unfolding grid
grid-n s asked name = with-n _ _ (file-asked-n s asked name) λ o. with-n _ _ (present-n o.grid) λ d. answer-n _ (grid-field-n s o.header d)

leaf-there-n : (o : Option Block) → Answers (present_leaf o)
unfolding present_leaf
leaf-there-n None = refl
leaf-there-n (Some b) = tt

either-n : {A : Type 0} (b : Bool) (m n : Answer A) → Answers m → Answers n → Answers (when b m n)
unfolding when
either-n true m n x y = x
either-n false m n x y = y

-- What the exported calls but the walk are asked, over the bytes s.
pub data Question (s : List ℕ) : (A : Type 0) → Answer A → Type 1 where
  open-file : Question s ArchiveHeader (open_file s)
  the-grid : (asked : Asked) (name : List ℕ) → Question s GridDescriptor (grid_asked s asked name)
  file-entry : (name : List ℕ) → Question s MetadataValue (file_entry s name)
  grid-entry : (asked : Asked) (grid name : List ℕ) → Question s MetadataValue (grid_entry s asked grid name)
  open-grid : (asked : Asked) (name : List ℕ) → Question s OpenedGrid (open_grid s asked name)
  fill-leaf : (asked : Asked) (name : List ℕ) (number slots : ℕ) → Question s (List ℕ) (fill_leaf s asked name number slots)
  fill-leaves : (asked : Asked) (name : List ℕ) (first slots : ℕ) → Question s (List ℕ) (fill_leaves s asked name first slots)
  leaf-origins : (asked : Asked) (name : List ℕ) (first nx ny nz : ℕ) → Question s Axes (leaf_origins s asked name first nx ny nz)

-- A refusal of any of them has a number of the table.
pub numbered : {s : List ℕ} {A : Type 0} {m : Answer A} → Question s A m → Answers m
unfolding file_entry grid_entry open_grid fill_leaf fill_leaves leaf_origins
numbered {s} open-file = open-file-n s
numbered {s} (the-grid asked name) = asked-n s asked name
numbered {s} (file-entry name) = with-n _ _ (open-file-n s) λ h. entry-at-n s name h.meta_pos
numbered {s} (grid-entry asked grid name) = with-n _ _ (asked-n s asked grid) λ d. entry-at-n s name d.meta_pos
numbered {s} (open-grid asked name) = with-n _ _ (grid-n s asked name) λ g. tt
numbered {s} (fill-leaf asked name number slots) =
    with-n _ _ (grid-n s asked name) λ g. with-n _ _ (leaf-there-n (leaf_numbered number g.filled)) λ b. either-n _ _ _ tt refl
numbered {s} (fill-leaves asked name first slots) = with-n _ _ (grid-n s asked name) λ g. either-n _ _ _ tt refl
numbered {s} (leaf-origins asked name first nx ny nz) = with-n _ _ (grid-n s asked name) λ g. either-n _ _ _ tt refl

-- ---- What a caller sees is enough.
-- So a call that returns 0 was not refused: it gave an answer, whose words stand in what was lent.
laid-at-0 : {A B : Type 0} (m : Answer A) → Answers m → (words : A → B) (lent : B) {out : B} → (0, out) ≡ laid m words lent → (a : A) × (gives a ≡ m) × (out ≡ words a)
unfolding laid
laid-at-0 (gives a) x words lent e = (a, refl, ap (λ (y : ℕ × _). y.1) e)
laid-at-0 (refuses k) x words lent e =
    let z : 0 ≡ k = ap (λ (y : ℕ × _). y.0) e in
    absurd (true≢false (sym (rw (← z) at x)))

pub given-at-0 :
    {s : List ℕ} {A : Type 0} {m : Answer A} → Question s A m → {B : Type 0} (words : A → B) (lent : B) {out : B} → (0, out) ≡ laid m words lent →
    (a : A) × (gives a ≡ m) × (out ≡ words a)
given-at-0 q words lent e = laid-at-0 _ (numbered q) words lent e

-- a walk call that returns 0 has walked: its words and counts are those of the walk's answer
pub walked-at-0 :
    {s words counts : List ℕ} {before : Slots} {words' counts' : List ℕ} {after : Slots} (c : WalkCall s words counts before 0 words' counts' after) →
    (w : Walked) × (gives w ≡ says_answer c.answer) × ((words', counts') ≡ walk_words w)
walked-at-0 {words = words} {counts = counts} c = laid-at-0 _ (either (has_layout words) refl) walk_words (words, counts) c.left
  where
    go : {after before : Slots} (m : Answer Walked) → ((k : ℕ) → m ≡ refuses k → (k ≡ 22) × (after ≡ before)) → Answers m
    go (gives w) h = tt
    go (refuses k) h = rw (h k refl).0

    either : (t : Bool) → has_layout words ≡ t → Answers (says_answer c.answer)
    either true e = go (says_answer c.answer) (c.walked (place_by words) (e, refl)).refused
    either false e = rw (c.foreign e).0 refl

-- And the words that it leaves, whatever words of this layout it was given: the first eleven are the layout and those of what these start from, a number
-- of 32 bits by its low half; the next is the number left, which the counts tell too, and which is what was left less the number filled.
pub walk-keeps :
    {s words counts : List ℕ} {before : Slots} {words' counts' : List ℕ} {after : Slots} (c : WalkCall s words counts before 0 words' counts' after) →
    (take 11 words' ≡ layout ∷ start_words (start_by words 1)) × (at words' 11 ≡ at words 11 - at counts' 0) × (at counts' 1 ≡ at words' 11)
unfolding words_of place_by
walk-keeps {words = words} {counts = counts} {words' = words'} {counts' = counts'} c = either (has_layout words) refl
  where
    either :
        (t : Bool) → has_layout words ≡ t →
        (take 11 words' ≡ layout ∷ start_words (start_by words 1)) × (at words' 11 ≡ at words 11 - at counts' 0) × (at counts' 1 ≡ at words' 11)
    either false e = let z : ◌≡◌ {A = ℕ} 0 1 = cc ((c.foreign e).0, (walked-at-0 c).1) in absurd (omega arith)
    either true e =
        let a = walked-at-0 c in
        let b = (c.walked (place_by words) (e, refl)).left_behind a.0 (sym a.1) in
        let there = ap (λ (x : List ℕ × List ℕ). at x.0 11) a.2 in
        let filled = ap (λ (x : List ℕ × List ℕ). at x.1 0) a.2 in
        let left = ap (λ (x : List ℕ × List ℕ). at x.1 1) a.2 in (
          ap (λ (x : List ℕ × List ℕ). take 11 x.0) a.2 ∙ ap (λ (t : _). layout ∷ start_words t) b.start,
          there ∙ b.in_place ∙ b.left ∙ ap (λ (n : ℕ). at words 11 - n) (sym filled),
          left ∙ sym b.in_place ∙ sym there,
        )

-- Demand 3 for such a caller: opening returned 0, and each call is given the words that the one before it left.
pub walks-at-0 :
    (s : List ℕ) (asked : Asked) (name : List ℕ) {out place out' place' : List ℕ} → OpenCall s (open_grid s asked name) out place 0 out' place' →
    (cs : List (WordCall s)) → Chained place' cs → (o : OpenedGrid) × (gives o ≡ open_grid s asked name) × Walks s asked name o cs
walks-at-0 s asked name {out} {place} call cs q =
    let a = given-at-0 (open-grid asked name) (open_words s) (out, place) call.left in
    (a.0, a.1, walks s asked name a.0 a.1 call cs q)
