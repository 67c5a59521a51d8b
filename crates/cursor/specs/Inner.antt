-- Inner matter: only contracts of inner functions cite it, and nothing here has to be believed.
-- It says what a cursor, whatever its words are, still hands out. That from the start on this is the tree's own pieces is proved in
-- proofs/Whole.antt.
use Rattle.std.specs.Prelude.{ℕ, zero, suc, ◌+◌, ◌-◌, ◌*◌, ◌/◌, ◌<◌, List, [], ◌∷◌, ◌++◌, map, Bool, true, ◌&&◌, ◌≡◌, leb, eqb, pos, length, Option, None, Some, Result, Ok, Err}
use Rattle.fields.specs.Parse.{Parse, got, fails, when}
use Rattle.fields.specs.Answer.{Answer, gives, refuses}
use Rattle.fields.specs.Says.{number}
use Rattle.fields.specs.declared.ParseError.{ParseError}
use Rattle.fields.specs.Fields.{i_vec3_field}
use Rattle.coordinates.specs.Coordinates.{index, places, global_of, aligned, origin_of}
use Rattle.coordinates.specs.declared.GlobalCoord.{GlobalCoord}
use Rattle.coordinates.specs.declared.Index.{Index}
use Rattle.masks.specs.Masks.{mask_bit, ones_from}
use Rattle.masks.specs.Inner.{next_one}
use Rattle.runs.specs.Runs.{is_stored}
use Rattle.runs.specs.Inner.{Held}
use Rattle.forms.specs.declared.Coding.{Coding}
use Rattle.nodes.specs.Nodes.{node_field, block_field}
use Rattle.nodes.specs.declared.NodeHeader.{NodeHeader}
use Rattle.tree.specs.Topology.{leaf_field}
use Rattle.tree.specs.Active.{Piece, side_of, edge_of, leaf_piece}
use Rattle.cursor.specs.declared.Piece.{Piece as CodePiece}
use Rattle.cursor.specs.declared.Entered.{Entered}
use Rattle.cursor.specs.declared.Cursor.{Cursor}

-- What is to come, one by one, and the check that refuses what would follow, if one does.
pub record Rest (A : Type 0) : Type 0 where
  pub items : List A
  pub refusal : Option ℕ

-- these and then the end; a refusal at once; these and then that
abbrev pub only : {A : Type 0} → List A → Rest A
only xs = record { items = xs; refusal = None }

abbrev pub refused_by : {A : Type 0} → ℕ → Rest A
refused_by k = record { items = []; refusal = Some k }

abbrev pub prepend : {A : Type 0} → List A → Rest A → Rest A
prepend xs r = record { items = xs ++ r.items; refusal = r.refusal }

-- A piece and the cursor behind it: a contract fixes each word of the next cursor, and not only what that one hands out.
pub record Stop : Type 0 where
  pub piece : Piece
  pub behind : Cursor

-- one stop, then that
abbrev pub stop : Piece → Cursor → Rest Stop → Rest Stop
stop q x r = prepend (record { piece = q; behind = x } ∷ []) r

-- the pieces alone
abbrev pub pieces_of : Rest Stop → Rest Piece
pieces_of r = record { items = map (λ t. t.piece) r.items; refusal = r.refusal }

-- what comes after a field that is read
unfoldable pub after : {A : Type 0} → Parse A → (A → ℕ → Rest Stop) → Rest Stop
after (got a n) f = f a n
after (fails k) f = refused_by k

-- what comes from here on, given where the topology and where the blocks go on
abbrev pub Onward : Type 0
Onward = ℕ → ℕ → Rest Stop

-- f for each place in turn, then k
unfoldable pub for_each : (ℕ → Onward → Onward) → List ℕ → Onward → Onward
for_each f [] k = k
for_each f (p ∷ ps) k = f p (for_each f ps k)

-- A cursor between roots, in a 5-node, and in a 4-node of a 5-node. What it does not stand in is zeros.
abbrev pub no_node : Entered
no_node = record { origin = (pos 0, pos 0, pos 0); pos = 0; next = 0 }

abbrev pub between_roots : ℕ → ℕ → ℕ → Cursor
between_roots left at block = record { depth = 0; roots_left = left; node5 = no_node; node4 = no_node; topology_pos = at; block_pos = block }

abbrev pub in_node5 : ℕ → Entered → ℕ → ℕ → Cursor
in_node5 left five at block = record { depth = 1; roots_left = left; node5 = five; node4 = no_node; topology_pos = at; block_pos = block }

abbrev pub in_node4 : ℕ → Entered → Entered → ℕ → ℕ → Cursor
in_node4 left five four at block = record { depth = 2; roots_left = left; node5 = five; node4 = four; topology_pos = at; block_pos = block }

-- a node that is just entered, and one whose places up to p are passed
abbrev pub entered_at : GlobalCoord → ℕ → Entered
entered_at origin at = record { origin = origin; pos = at; next = 0 }

abbrev pub beyond : GlobalCoord → ℕ → ℕ → Entered
beyond origin at p = record { origin = origin; pos = at; next = p + 1 }

-- Whether words can be those of a node: its child mask of n bytes lies in the file, its next place is none past them, and its origin is a
-- multiple of m.
unfoldable pub is_entered : List ℕ → ℕ → ℕ → Entered → Bool
is_entered s m n w = leb (w.pos + n) (length s) && (leb w.next (8 * n) && aligned m w.origin)

-- the place of such a node's next child, if one is left; words that are no node's get check 22
unfoldable pub next_child : List ℕ → ℕ → ℕ → Entered → Answer (Option Index)
next_child s m n w = when (is_entered s m n w) (gives (next_one (mask_bit s w.pos) (8 * n) w.next)) (refuses 22)

-- In a node: f for each child from its next place on, then k. Words that are no node's get check 22.
unfoldable pub children_of : List ℕ → ℕ → ℕ → (ℕ → Onward → Onward) → Entered → Onward → Onward
children_of s m n f w k at block = when (is_entered s m n w) (for_each f (ones_from (mask_bit s w.pos) w.next (8 * n - w.next)) k at block) (refused_by 22)

-- a node that is left: its header is read again, and it is the piece; then r
abbrev pub node_piece : ℕ → GlobalCoord → NodeHeader → Piece
node_piece level origin h = record { level = level; origin = origin; child = h.child; value = h.value; values = h.values }

unfoldable pub leaving : List ℕ → Coding → ℕ → ℕ → GlobalCoord → ℕ → Cursor → Rest Stop → Rest Stop
leaving s c level n origin node behind r = after (node_field s c n node) λ h e. stop (node_piece level origin h) behind r

-- The leaf at place p of a 4-node, then k. The 4-node starts at `node`; around it stand the 5-node and the number of roots left, for the cursor.
unfoldable pub leaf_rest : List ℕ → Coding → ℕ → Entered → GlobalCoord → ℕ → ℕ → Onward → Onward
leaf_rest s c left five origin node p k at block =
    after (leaf_field s origin p at) λ leaf q.
    after (block_field s c leaf block) λ b r.
    stop (leaf_piece b) (in_node4 left five (beyond origin node p) q r) (k q r)

-- in a 4-node: its leaves, itself, then k
unfoldable pub rest4 : List ℕ → Coding → ℕ → Entered → Entered → Onward → Onward
rest4 s c left five four k =
    children_of s 128 512 (leaf_rest s c left five four.origin four.pos) four
    λ at block. leaving s c 1 512 four.origin four.pos (in_node5 left five at block) (k at block)

-- the 4-node at place p of a 5-node, then k
unfoldable pub node4_rest : List ℕ → Coding → ℕ → GlobalCoord → ℕ → ℕ → Onward → Onward
node4_rest s c left origin node p k at block =
    after (node_field s c 512 at) λ h q.
    rest4 s c left (beyond origin node p) (entered_at (global_of 32 128 origin (index p)) at) k q block

-- in a 5-node: its 4-nodes, itself, then k
unfoldable pub rest5 : List ℕ → Coding → ℕ → Entered → Onward → Onward
rest5 s c left five k =
    children_of s 4096 4096 (node4_rest s c left five.origin five.pos) five
    λ at block. leaving s c 2 4096 five.origin five.pos (between_roots left at block) (k at block)

-- So many roots, then the end. Check 17 is left to opening: an origin that is no multiple of 4096 is no node's and gets 22, a repeated one is
-- not noticed.
unfoldable pub roots_rest : List ℕ → Coding → ℕ → Onward
roots_rest s c zero at block = only []
roots_rest s c (suc n) at block =
    after (i_vec3_field s at) λ v p.
    after (node_field s c 4096 p) λ h q.
    rest5 s c n (entered_at (origin_of v) p) (roots_rest s c n) q block

-- from a 5-node, and from a 4-node, to the end of the tree
abbrev pub from5 : List ℕ → Coding → ℕ → Entered → Onward
from5 s c left five = rest5 s c left five (roots_rest s c left)

abbrev pub from4 : List ℕ → Coding → ℕ → Entered → Entered → Onward
from4 s c left five four = rest4 s c left five four (from5 s c left five)

-- what a cursor still hands out
unfoldable pub to_come : List ℕ → Coding → Cursor → Rest Stop
to_come s c x =
    when (eqb x.depth 0) (roots_rest s c x.roots_left x.topology_pos x.block_pos)
    (when (eqb x.depth 1) (from5 s c x.roots_left x.node5 x.topology_pos x.block_pos)
    (from4 s c x.roots_left x.node5 x.node4 x.topology_pos x.block_pos))

-- what the code's answer says
abbrev pub piece_of : CodePiece → Piece
piece_of q = record { level = q.level; origin = q.origin; child = q.child; value = q.value; values = q.values }

abbrev pub says_piece : List ℕ → Coding → Result (Option (CodePiece × Cursor)) ParseError → Rest Stop
says_piece s c (Ok (Some (q, x))) = stop (piece_of q) x (to_come s c x)
says_piece s c (Ok None) = only []
says_piece s c (Err e) = refused_by (number e)

-- What a reader of a piece's places asks, and every piece that is handed out has (proofs/Step.antt): its masks and values lie in the file, its
-- origin is a multiple of its span, an active place is stored, and a leaf has its value mask in place of a child mask.
pub record HeldPiece (s : List ℕ) (c : Coding) (q : Piece) : Type 0 where
  pub held : Held s c (places (edge_of q.level) / 8) q.child q.value q.values
  pub multiple : aligned (edge_of q.level * side_of q.level) q.origin ≡ true
  pub kept : (p : ℕ) → p < places (edge_of q.level) → mask_bit s q.value p ≡ true → is_stored s q.values.stored q.child q.value p ≡ true
  pub leaf : q.level ≡ 0 → q.child ≡ q.value
