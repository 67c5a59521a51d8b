-- A 4-node that fits, its leaves and itself, is passed with one look at its header.
use mathlib.Core.Path.{◌≡◌, refl, sym, ap, ◌∙◌}
use mathlib.Core.List.{List}
use mathlib.Core.Bool.{true}
use Prim.Native.Nat.{ℕ, ◌-◌, ◌≤◌, ◌<◌}
use native.Mathlib.Omega.{arith}
use lib.Dec.{lit≤}
use Rattle.std.proofs.Common.{None, Some}
use Rattle.fields.specs.Answer.{gives}
use Rattle.fields.specs.Parse.{got, when}
use Rattle.fields.proofs.Laws.{when_true}
use Rattle.coordinates.specs.Coordinates.{global_of, aligned}
use Rattle.coordinates.specs.declared.GlobalCoord.{GlobalCoord}
use Rattle.coordinates.specs.declared.Index.{Index}
use Rattle.masks.specs.Masks.{mask_bit, count_below}
use Rattle.masks.specs.Inner.{next_one, IsMask}
use Rattle.masks.proofs.Laws.{next-lt, next-from}
use Rattle.forms.specs.declared.Coding.{Coding}
use Rattle.nodes.specs.Nodes.{node_field}
use Rattle.nodes.specs.declared.NodeHeader.{NodeHeader}
use Rattle.nodes.proofs.Laws.{node-back}
use Rattle.tree.specs.Inner.{leaf_count}
use Rattle.cursor.specs.Inner.{stop, beyond, entered_at, node_piece, is_entered, next_child, leaving, rest4, rest5, from5, to_come}
use Rattle.cursor.specs.declared.Cursor.{Cursor}
use Rattle.cursor.specs.declared.Entered.{Entered}
use Rattle.cursor.proofs.Laws.{EnteredNode, after-got, entered-back, entered-aligned, children-some, children-none, to-come5, to-come4, node4-there}
use Rattle.skip.specs.Inner.{RanTo, node4_of, as_run, LeavesRan, InNode5, behind_node, Goes}
use Rattle.skip.specs.declared.LeafRun.{LeafRun}
use Rattle.skip.specs.declared.Run.{Run}
use Rattle.skip.proofs.Steps.{same_ahead, ran_on, piece-passed}

module _ (s : List ℕ) (c : Coding) (t : Run) (in5 : InNode5 s t) where
  abbrev x : Cursor
  x = t.cursor

  words5 : EnteredNode s 4096 4096 x.node5
  words5 = entered-back s 4096 4096 x.node5 in5.node

  pub child-mask5 : IsMask s x.node5.pos 4096 × (x.node5.next ≤ 32768)
  child-mask5 = (record { within = words5.within; words = refl; small = lit≤ tt }, words5.places)

  pub multiple5 : aligned 4096 x.node5.origin ≡ true
  multiple5 = words5.multiple

  -- what the cursor hands out, whatever its 4-node's words are
  from-node5 : to_come s c x ≡ from5 s c x.roots_left x.node5 x.topology_pos x.block_pos
  unfolding to_come when
  from-node5 = rw in5.depth

  module _ {p : Index} (e : Some p ≡ next_one (mask_bit s x.node5.pos) 32768 x.node5.next) where
    pub below5 : p.0 < 32768
    below5 = next-lt (mask_bit s x.node5.pos) 32768 x.node5.next p (sym e)

    pub later5 : x.node5.next ≤ p.0
    later5 = next-from (mask_bit s x.node5.pos) 32768 x.node5.next p (sym e)

    is-child5 : gives (Some p) ≡ next_child s 4096 4096 x.node5
    unfolding next_child
    is-child5 = when_true _ (sym in5.node) (ap gives e)

    -- behind it the words are still a node's, and the run goes on from there
    node5-on : is_entered s 4096 4096 (beyond x.node5.origin x.node5.pos p.0) ≡ true
    node5-on =
        let l = below5 in
        sym (entered-aligned s 4096 4096 (beyond x.node5.origin x.node5.pos p.0) words5.within (omega arith) (sym multiple5))

    pub goes_on : {z : Cursor} {at block n k : ℕ} → RanTo s c t (behind_node t p.0 at block n k) → z ≡ (behind_node t p.0 at block n k).cursor →
        Goes s c t p.0 (record { cursor = z; records = n; leaves = k })
    goes_on b d = rw d (record { ran = b; there = record { depth = refl; node = node5-on }; next = refl })

    module _ {h : NodeHeader} {q : ℕ} (d : got h q ≡ node_field s c 512 x.topology_pos) {o : GlobalCoord} (f : o ≡ global_of 32 128 x.node5.origin p) where
      abbrev five : Entered
      five = beyond x.node5.origin x.node5.pos p.0

      -- the run over its leaves begins here
      abbrev first : LeafRun
      first = record { next = 0; at = q; block = x.block_pos; records = t.records; leaves = t.leaves }

      abbrev y : LeafRun → Run
      y r = as_run x.roots_left five o x.topology_pos r

      -- the cursor in the 4-node hands out the same
      enters : to_come s c (y first).cursor ≡ to_come s c x
      unfolding rest5
      enters =
          to-come4 s c x.roots_left q x.block_pos five (entered_at o x.topology_pos)
          ∙ node4-there s c x.roots_left x.node5.origin x.node5.pos p.0 x.topology_pos x.block_pos d f
          ∙ children-some s 4096 4096 _ x.node5 _ x.topology_pos x.block_pos is-child5
          ∙ sym from-node5

      pub value-mask4 : IsMask s h.value 512
      value-mask4 = (node-back 512 s c _ refl (lit≤ tt) h q d).value

      pub node4-in : aligned 128 o ≡ true → is_entered s 128 512 (entered_at o x.topology_pos) ≡ true
      node4-in a =
          let b = node-back 512 s c _ refl (lit≤ tt) h q d in
          sym (entered-aligned s 128 512 (entered_at o x.topology_pos) (omega (arith, b.after, b.inside)) (omega arith) (sym a))

      -- its leaves are run over
      module _ {r : LeafRun} (ran : LeavesRan s c o x.topology_pos first r) where
        inside : RanTo s c t (y r)
        inside = ran_on (same_ahead t (y first).cursor enters) (ran.ran x.roots_left five)

        pub ran-inside : {z : Cursor} → z ≡ (y r).cursor → RanTo s c t (record { cursor = z; records = r.records; leaves = r.leaves })
        ran-inside e = rw e inside

        -- all of them are passed: the 4-node itself comes
        abbrev four : Entered
        four = node4_of o x.topology_pos r.next

        module _ (z : None ≡ next_one (mask_bit s x.topology_pos) 4096 r.next) where
          no-child : gives None ≡ next_child s 128 512 four
          unfolding next_child
          no-child = when_true _ (sym ran.words) (ap gives z)

          itself : (let w = (behind_node t p.0 r.at r.block 0 0).cursor in stop (node_piece 1 o h) w (to_come s c w)) ≡ to_come s c (y r).cursor
          unfolding rest4 leaving
          itself =
              let w = (behind_node t p.0 r.at r.block 0 0).cursor in
              after-got _ d (ap (stop (node_piece 1 o h) w) (to-come5 s c x.roots_left r.at r.block five))
              ∙ children-none s 128 512 _ four _ r.at r.block no-child ∙ sym (to-come4 s c x.roots_left r.at r.block five four)

          no-leaf : 0 ≡ leaf_count (node_piece 1 o h)
          unfolding when
          no-leaf = refl

          pub node-passed : {tiles : ℕ} → tiles ≡ count_below (mask_bit s h.value) 4096 → tiles ≤ r.records → RanTo s c t (behind_node t p.0 r.at r.block (r.records - tiles) r.leaves)
          node-passed v fits =
              let m : r.leaves - 0 ≡ r.leaves = omega arith in
              let b = piece-passed s c (y r) itself v no-leaf fits (omega arith) in
              ran_on inside (record { same = rw m at b.0; no_more = omega (arith, b.1) })
