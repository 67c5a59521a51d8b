-- The words of the opened grid and of its place are laid into what was lent, or nothing is.
use Rattle.grid_calls.proofs.Laws.{open-refused, open-gave}
use Rattle.grid_calls.proofs.lay_grid.Goals as goal

pub opened_words-requires : goal.opened_words-requires
opened_words-requires c = c.requires _ c.in-Ok.is

pub returns-in-Ok : goal.returns-in-Ok
returns-in-Ok c = open-gave _ _ c.in-Ok.is c.opened_words.ensures c.words_of.ensures

pub returns-in-Err : goal.returns-in-Err
returns-in-Err c = open-refused _ _ c.in-Err.is c.from.ensures
