-- The words are those of the parts, one part behind the other, and each part comes back from its own.
use Rattle.words.specs.Words.{words_of}
use Rattle.words.proofs.Laws.{stands}
use Rattle.words.proofs.words_of.Goals as goal

pub returns : goal.returns
unfolding words_of
returns c =
    let p = c.args.p in
    let t = c.start_words.ensures in
    let x = c.cursor_words.ensures in
    let w = c.inside_words.ensures in
    rw (c.from.ensures, c.copy_from_slice.ensures.after, t.0, c.copy_from_slice-2.ensures.after, x.0, c.copy_from_slice-3.ensures.after, w.0)
    (λ i. words_of p, stands p (rw t.0 at t.1) (rw x.0 at x.1) (rw w.0 at w.1))
