-- The places of a walk depend on the grid's own bytes alone: two files that are the same on all that opening the grid reads have the same places.
use mathlib.Core.Path.{◌≡◌, refl, sym, ap, ◌∙◌}
use mathlib.Core.List.{List, [], map}
use Prim.Native.Nat.{ℕ, ◌-◌}
use native.Mathlib.Omega.{arith}
use lib.ListN.{length}
use Rattle.fields.specs.Parse.{when}
use Rattle.fields.proofs.Laws.{then-got, Always, then-always, check-always, got-always}
use Rattle.fields.proofs.Agree.{Each}
use Rattle.fields.specs.Answer.{gives}
use Rattle.archive.specs.Archive.{present, file_asked}
use Rattle.archive.specs.declared.Asked.{Asked}
use Rattle.fields.proofs.Answers.{with-back, answer_back}
use Rattle.header.specs.declared.ArchiveHeader.{ArchiveHeader}
use Rattle.descriptor.specs.declared.GridDescriptor.{GridDescriptor}
use Rattle.transform.proofs.Agree.{transform-reads}
use Rattle.roots.proofs.Laws.{head-end}
use Rattle.roots.proofs.Agree.{head-reads}
use Rattle.tree.specs.Active.{Piece, pieces}
use Rattle.tree.proofs.Agree.{SamePiece, pieces-same}
use Rattle.cursor.specs.Inner.{Rest, Stop, between_roots, to_come}
use Rattle.cursor.specs.declared.Cursor.{Cursor}
use Rattle.cursor.proofs.Laws.{to-come0}
use Rattle.cursor.proofs.Whole.{whole}
use Rattle.bits.specs.Inner.{nothing}
use Rattle.records.specs.Inner.{hand_piece}
use Rattle.place.specs.Inner.{course, listing, hand_on, nowhere, fresh_place, moved, place_from}
use Rattle.place.specs.declared.Start.{Start}
use Rattle.grid.specs.Grid.{Grid, coding_of, root_limit, content_field, grid_field, grid, place_after}
use Rattle.grid.proofs.Coverage.{grid-read}
use Rattle.grid.proofs.Agree.{SameContent, SameAsked, grid-again, active-again}
use Rattle.agree.proofs.Stops.{roots-alike}
use Rattle.agree.proofs.Courses.{course-same}

-- where a grid's walks start, and what they start from where the active list has n records
abbrev start_cursor : Grid → Cursor
start_cursor g = between_roots g.head.root_count g.head.roots_pos g.tree.block_pos

abbrev start_with : Grid → ℕ → Start
start_with g n = record {
  coding = g.coding;
  tiles_pos = g.head.tiles_pos;
  tile_count = g.head.tile_count;
  roots_pos = g.head.roots_pos;
  root_count = g.head.root_count;
  block_pos = g.tree.block_pos;
  length = n;
}

-- the two files have one length, and from the grid's start on the same stops
abbrev SameStops : List ℕ → List ℕ → Grid → Type 0
SameStops s t g = (length s ≡ length t) × (to_come s g.coding (start_cursor g) ≡ to_come t g.coding (start_cursor g))

content-alike : (s t : List ℕ) (h : ArchiveHeader) (d : GridDescriptor) → SameContent s t h d → Always (λ g v. SameStops s t g) (content_field s h d)
unfolding content_field
content-alike s t h d u = then-always _ _ _ λ map q e. then-always _ _ _ λ head p f. then-always _ _ _ λ roots r g. then-always _ _ _ λ filled v i. got-always _ _ _
    (let c = coding_of h d head in
    let here = u.tree roots r (then-got _ e (then-got _ f g)) in
    let blocks = u.blocks _ v (then-got _ e (then-got _ f (then-got _ g (then-got _ i refl)))) in
    let l = (transform-reads {t = t} {lo = d.tree_pos}).after map q e (omega arith) in
    let k = (head-reads {t = t} {lo = d.tree_pos} root_limit).after head p f l in
    let alike = roots-alike s t c d.tree_pos d.block_pos head.root_count [] p d.block_pos (omega arith) (omega arith) roots r g filled v i here blocks in
    (blocks.long, to-come0 s c _ _ _ ∙ rw (head-end s root_limit q head p f) at alike ∙ sym (to-come0 t c _ _ _)))

module _ (s t : List ℕ) (asked : Asked) (name : List ℕ) (u : SameAsked s t asked name) (g : Grid) (e : gives g ≡ grid s asked name) where
  stops_same : SameStops s t g
  unfolding grid grid_field
  stops_same =
      let y = with-back (file_asked s asked name) _ e in
      let z = with-back (present y.0.grid) _ y.2 in
      let a = answer_back (grid_field s y.0.header z.0) z.2 in
      field y.0.header z.0 (u.content y.0 z.0 y.1 z.1) g a.0 a.1
    where
      field : (h : ArchiveHeader) (d : GridDescriptor) → SameContent s t h d → Always (λ g v. SameStops s t g) (grid_field s h d)
      field h d k = check-always _ _ _ _ λ x. check-always _ _ _ _ λ y. content-alike s t h d k

  -- the stops from the start on are at the grid's pieces
  own-pieces : map (λ u. u.piece) (to_come s g.coding (start_cursor g)).items ≡ pieces g.filled
  own-pieces =
      let r = grid-read s asked name e in
      ap (λ (x : Cursor). map (λ u. u.piece) (to_come s g.coding x).items) (sym r.start) ∙ ap (λ (z : Rest Piece). z.items) (whole r.parsed)

  hand-same : (m : ℕ) → hand_on s g.coding m (start_cursor g) nowhere ≡ hand_on t g.coding m (start_cursor g) nowhere
  unfolding hand_piece when
  hand-same m =
      let w = (grid-again s t asked name u g e).1 in
      let each : Each (SamePiece s t g.coding) (map (λ u. u.piece) (to_come s g.coding (start_cursor g)).items) = rw own-pieces (pieces-same s t g.coding g.filled w.2) in
      course-same s t g.coding w.0 stops_same.0 (to_come s g.coding (start_cursor g)).items (start_cursor g) (start_cursor g) m (nothing nowhere) refl each
      ∙ ap (λ (z : Rest Stop). course t g.coding m (nothing nowhere) (start_cursor g) (listing t z.items)) stops_same.1

  -- So the place after m records is the same in both files.
  pub place_same : (m : ℕ) → place_after s g m ≡ place_after t g m
  unfolding place_after place_from
  place_same m =
      let n = ap length (active-again s t asked name u g e) in
      let a = hand-same m in
      λ i. moved (fresh_place (start_with g (n i))) (n i - m) (a i).cursor (a i).inside
