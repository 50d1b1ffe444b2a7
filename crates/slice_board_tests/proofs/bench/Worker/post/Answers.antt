use Rattle.std.proofs.Common.{⊎_elim, sym, subst}
use Rattle.slice_board.specs.Passes.{PassState, IsLogged, logged_word}
use Rattle.slice_board_tests.proofs.sets.Benching.{marked_more, marked_new}
use Rattle.slice_board_tests.proofs.bench.Worker.post.Goals as goal

pub returns-then-may-clause-noted : goal.returns-then-may-clause-noted
returns-then-may-clause-noted c p b has =
    let l = c.args.self.now.pass.posted in
    subst (λ (q : PassState _). IsLogged q.posted p b) (sym c.post.ensures)
    (⊎_elim (λ e. marked_more l (logged_word c.args.point c.args.word c.args.mask) p b (c.requires.noted p b e))
    (λ e. marked_new l c.args.point c.args.word c.args.mask p b e.0 e.1 e.2) (c.note.ensures p b has))
