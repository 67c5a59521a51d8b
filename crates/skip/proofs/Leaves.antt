-- A leaf that fits is passed by its mask in the topology.
use mathlib.Core.Path.{◌≡◌, refl, sym, ap, ◌∙◌}
use mathlib.Core.List.{List}
use mathlib.Core.Bool.{true}
use Prim.Native.Nat.{ℕ, ◌+◌, ◌-◌, ◌≤◌, ◌<◌}
use native.Mathlib.Omega.{arith}
use lib.Dec.{lit≤}
use lib.ListN.{length}
use Rattle.std.proofs.Common.{Some}
use Rattle.fields.specs.Answer.{gives}
use Rattle.fields.specs.Parse.{got, when}
use Rattle.fields.specs.Fields.{bytes_field}
use Rattle.fields.specs.declared.Span.{Span}
use Rattle.fields.proofs.Laws.{when_true}
use Rattle.coordinates.specs.Coordinates.{global_of, aligned}
use Rattle.coordinates.specs.declared.GlobalCoord.{GlobalCoord}
use Rattle.coordinates.specs.declared.Index.{Index}
use Rattle.masks.specs.Masks.{mask_bit, count_below}
use Rattle.masks.specs.Inner.{next_one, IsMask}
use Rattle.masks.proofs.Laws.{next-lt, agree-ones}
use Rattle.forms.specs.declared.Coding.{Coding}
use Rattle.nodes.specs.Nodes.{block_field}
use Rattle.fields.specs.Inner.{end_of}
use Rattle.nodes.specs.declared.Block.{Block}
use Rattle.nodes.proofs.Laws.{block_back, end_back}
use Rattle.tree.specs.Active.{leaf_piece}
use Rattle.tree.specs.Inner.{record_count, leaf_count}
use Rattle.cursor.specs.Inner.{stop, in_node4, beyond, is_entered, next_child, rest4, to_come}
use Rattle.cursor.specs.declared.Cursor.{Cursor}
use Rattle.cursor.specs.declared.Entered.{Entered}
use Rattle.cursor.proofs.Laws.{EnteredNode, entered-back, entered-aligned, children-some, to-come4, leaf-there}
use Rattle.skip.specs.Inner.{RanTo, node4_of, as_run, LeavesRan}
use Rattle.skip.specs.declared.Run.{Run}
use Rattle.skip.specs.declared.LeafRun.{LeafRun}
use Rattle.skip.proofs.Steps.{ran-none, same_ahead, ran_on, piece-passed}

-- a run begins where it stands
pub begins :
    (s : List ℕ) (c : Coding) (origin : GlobalCoord) (node : ℕ) (t : LeafRun) → is_entered s 128 512 (node4_of origin node t.next) ≡ true → LeavesRan s c origin node t t
begins s c origin node t h = record { words = h; ran = λ roots five. ran-none s c (as_run roots five origin node t) }

-- and is a run from the cursor that stands in this 4-node
module _ (t : Run) where
  abbrev x : Cursor
  x = t.cursor

  abbrev w : Entered
  w = x.node4

  abbrev first : LeafRun
  first = record { next = w.next; at = x.topology_pos; block = x.block_pos; records = t.records; leaves = t.leaves }

  pub ran-there :
      {s : List ℕ} {c : Coding} {r : LeafRun} {y : Cursor} → x.depth ≡ 2 → LeavesRan s c w.origin w.pos first r →
      y ≡ (as_run x.roots_left x.node5 w.origin w.pos r).cursor → RanTo s c t (record { cursor = y; records = r.records; leaves = r.leaves })
  unfolding to_come when
  ran-there {s} {c} e h d =
      let f : to_come s c (in_node4 x.roots_left x.node5 w x.topology_pos x.block_pos) ≡ to_come s c x = rw e in
      rw d (ran_on (same_ahead t _ f) (h.ran x.roots_left x.node5))

module _ {s : List ℕ} {c : Coding} {origin : GlobalCoord} {node : ℕ} {t v : LeafRun} (h : LeavesRan s c origin node t v) where
  abbrev four : Entered
  four = node4_of origin node v.next

  words : EnteredNode s 128 512 four
  words = entered-back s 128 512 four h.words

  pub child-mask : IsMask s node 512 × (v.next ≤ 4096)
  child-mask = (record { within = words.within; words = refl; small = lit≤ tt }, words.places)

  pub multiple : aligned 128 origin ≡ true
  multiple = words.multiple

  module _ {p : Index} (e : Some p ≡ next_one (mask_bit s node) 4096 v.next) where
    pub place-below : p.0 < 4096
    place-below = next-lt (mask_bit s node) 4096 v.next p (sym e)

    is-child : gives (Some p) ≡ next_child s 128 512 four
    unfolding next_child
    is-child = when_true _ (sym h.words) (ap gives e)

    -- the leaf's mask is read, its ones are counted, and its block is passed
    module _ {w : Span} {q : ℕ} (d : got w q ≡ bytes_field s 64 v.at) {o : GlobalCoord} (f : o ≡ global_of 16 8 origin p) {n : ℕ}
        (count : n ≡ count_below (mask_bit s w.start) 512) (fits : n ≤ v.records) (one : v.leaves ≡ 0 → ⊥) {r : ℕ} {u : Unit}
        (g : got u r ≡ end_of (block_field s c (record { origin = o; mask = w.start }) v.block)) where
      abbrev further : LeafRun
      further = record { next = p.0 + 1; at = q; block = r; records = v.records - n; leaves = v.leaves - 1 }

      there :
          (roots : ℕ) (five : Entered) (b : Block) → got b r ≡ block_field s c (record { origin = o; mask = w.start }) v.block →
          (let y = (as_run roots five origin node further).cursor in stop (leaf_piece b) y (to_come s c y)) ≡ to_come s c (as_run roots five origin node v).cursor
      unfolding rest4
      there roots five b g =
          leaf-there s c roots five origin node p.0 v.at v.block d f g refl
          ∙ children-some s 128 512 _ four _ v.at v.block is-child ∙ sym (to-come4 s c roots v.at v.block five four)

      is_leaf_lem : (b : Block) → 1 ≡ leaf_count (leaf_piece b)
      unfolding when
      is_leaf_lem b = refl

      pub leaf-on : LeavesRan s c origin node t further
      leaf-on =
          let a = end_back _ g in
          let b = a.0 in
          let k : n ≡ record_count s (leaf_piece b) = count ∙ sym (ap length (agree-ones _ _ 512 (block_back s c _ v.block b r a.1).agrees)) in
          let l = place-below in
          record {
            words = sym (entered-aligned s 128 512 (beyond origin node p.0) words.within (omega arith) (sym multiple));
            ran = λ roots five.
                let z = piece-passed s c (as_run roots five origin node v) (there roots five b a.1) k (is_leaf_lem b) fits (omega (arith, one)) in
                record { same = z.0 ∙ (h.ran roots five).same; no_more = omega (arith, z.1, (h.ran roots five).no_more) };
          }
