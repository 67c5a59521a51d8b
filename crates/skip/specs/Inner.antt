-- Inner matter: only contracts of inner functions cite it, and nothing here has to be believed.
-- Passing whole pieces from a cursor on, as long as they fit into what is left of two budgets: so many records, so many leaves.
use Rattle.std.specs.Prelude.{ℕ, ◌+◌, ◌-◌, ◌≤◌, ◌≡◌, List, [], ◌∷◌, true, ◌&&◌, leb, length, Option, None, Some, Result, Ok, Err}
use Rattle.fields.specs.Parse.{when}
use Rattle.fields.specs.Says.{number}
use Rattle.fields.specs.declared.ParseError.{ParseError}
use Rattle.coordinates.specs.declared.GlobalCoord.{GlobalCoord}
use Rattle.forms.specs.declared.Coding.{Coding}
use Rattle.tree.specs.Inner.{record_count, leaf_count}
use Rattle.cursor.specs.Inner.{Stop, in_node5, in_node4, beyond, is_entered, to_come, piece_of}
use Rattle.cursor.specs.declared.Cursor.{Cursor}
use Rattle.cursor.specs.declared.Entered.{Entered}
use Rattle.skip.specs.declared.Skipped.{Skipped}
use Rattle.skip.specs.declared.Skipped.TheVariants.{Before, End}
use Rattle.skip.specs.declared.Run.{Run}
use Rattle.skip.specs.declared.LeafRun.{LeafRun}
use Rattle.skip.specs.declared.Node4Run.{Node4Run}
use Rattle.skip.specs.declared.Node4Run.TheVariants.{Passed, Stopped}

-- What comes of passing pieces: the first one that does not fit, with the cursor behind it, or the end, each with the records and leaves that are
-- still to be passed; or a refusal.
pub data Skip : Type 0 where
  before : Stop → ℕ → ℕ → Skip
  ended : ℕ → ℕ → Skip
  refused : ℕ → Skip

unfoldable pub skipping : List ℕ → ℕ → ℕ → List Stop → Option ℕ → Skip
skipping s n k [] None = ended n k
skipping s n k [] (Some j) = refused j
skipping s n k (t ∷ ts) r =
    when (leb (record_count s t.piece) n && leb (leaf_count t.piece) k)
    (skipping s (n - record_count s t.piece) (k - leaf_count t.piece) ts r)
    (before t n k)

-- from a cursor on
abbrev pub skip_from : List ℕ → Coding → ℕ → ℕ → Cursor → Skip
skip_from s c n k x = skipping s n k (to_come s c x).items (to_come s c x).refusal

-- What each answer of the code says.
abbrev pub says_skip : Result Skipped ParseError → Skip
says_skip (Ok (Before q x n k)) = before (record { piece = piece_of q; behind = x }) n k
says_skip (Ok (End n k)) = ended n k
says_skip (Err e) = refused (number e)

-- From where a run over pieces stands: what comes of passing them, and how many are to come.
abbrev pub skip_of : List ℕ → Coding → Run → Skip
skip_of s c t = skip_from s c t.records t.leaves t.cursor

abbrev pub left : List ℕ → Coding → Run → ℕ
left s c t = length (to_come s c t.cursor).items

-- a run: from where it ends the same comes of it as from where it began, and no more pieces are to come
pub record RanTo (s : List ℕ) (c : Coding) (t r : Run) : Type 0 where
  pub same : skip_of s c r ≡ skip_of s c t
  pub no_more : left s c r ≤ left s c t

-- the 4-node with this origin at this position, its places below `next` passed
abbrev pub node4_of : GlobalCoord → ℕ → ℕ → Entered
node4_of origin node next = record { origin = origin; pos = node; next = next }

-- where a run over its leaves stands, as a run over pieces, whatever stands around the 4-node
abbrev pub as_run : ℕ → Entered → GlobalCoord → ℕ → LeafRun → Run
as_run roots five origin node r =
    record { cursor = in_node4 roots five (node4_of origin node r.next) r.at r.block; records = r.records; leaves = r.leaves }

-- a run over its leaves; the words are still a node's
pub record LeavesRan (s : List ℕ) (c : Coding) (origin : GlobalCoord) (node : ℕ) (t r : LeafRun) : Type 0 where
  pub words : is_entered s 128 512 (node4_of origin node r.next) ≡ true
  pub ran : (roots : ℕ) (five : Entered) → RanTo s c (as_run roots five origin node t) (as_run roots five origin node r)

-- a run stands in a 5-node, whose words are a node's
pub record InNode5 (s : List ℕ) (t : Run) : Type 0 where
  pub depth : t.cursor.depth ≡ 1
  pub node : is_entered s 4096 4096 t.cursor.node5 ≡ true

-- a run in the 5-node where t stands, behind its place p
abbrev pub behind_node : Run → ℕ → ℕ → ℕ → ℕ → ℕ → Run
behind_node t p at block n k =
    record { cursor = in_node5 t.cursor.roots_left (beyond t.cursor.node5.origin t.cursor.node5.pos p) at block; records = n; leaves = k }

-- what a run over the 4-node at place p says: it goes on in the 5-node behind that place, or stops
pub record Goes (s : List ℕ) (c : Coding) (t : Run) (p : ℕ) (r : Run) : Type 0 where
  pub ran : RanTo s c t r
  pub there : InNode5 s r
  pub next : r.cursor.node5.next ≡ p + 1

abbrev pub NodeRan : List ℕ → Coding → Run → ℕ → Node4Run → Type 0
NodeRan s c t p (Passed r) = Goes s c t p r
NodeRan s c t p (Stopped r) = RanTo s c t r
