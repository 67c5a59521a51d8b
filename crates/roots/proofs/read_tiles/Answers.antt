-- Reading so many tiles of 17 bytes is passing their whole length; where there is none, nothing is read.
use Rattle.fields.proofs.Steps.{read, via, handed-on-end}
use Rattle.roots.proofs.Laws.{no-tiles, tiles-passed}
use Rattle.roots.proofs.read_tiles.Goals as goal

pub returns-then-count-eq0 : goal.returns-then-count-eq0
returns-then-count-eq0 c = no-tiles _ _ _ c.if-count-eq0.true

pub returns-in_err-n : goal.returns-in_err-n
returns-in_err-n c = handed-on-end _ _ c.from_residual.ensures.1 (via (tiles-passed _ _ _ c.if-count-eq0.false) (search (read, c.in_err-n.ensures)))

pub returns : goal.returns
returns c = via (tiles-passed _ _ _ c.if-count-eq0.false) (search (read, c.in_ok-n.ensures))
