use Rattle.std.proofs.Common.{sym, subst}
use Rattle.slice_board.specs.Passes.{PassState, IsLogged}
use Rattle.slice_board.proofs.words.Sums.{marked_still}
use Rattle.slice_board_tests.proofs.bench.Worker.join.Goals as goal

pub returns-in-Ok-clause-noted : goal.returns-in-Ok-clause-noted
returns-in-Ok-clause-noted c point bit has =
    subst (λ (p : PassState _). IsLogged p.posted point bit) (sym c.in-Ok.ensures.joined)
    (marked_still c.args.self.pass.posted c.args.other.pass.posted point bit (c.requires.noted point bit has))
