use Rattle.std.proofs.Common.{sym, subst}
use Rattle.slice_board.specs.Passes.{PassState}
use Rattle.slice_board.specs.Teams.{IsDrained}
use Rattle.slice_board.proofs.draining.Drained.{joined_drained}
use Rattle.slice_board.proofs.workers.united_pass.Goals as goal

pub returns-clause-drained : goal.returns-clause-drained
returns-clause-drained g c =
    subst (λ (pass : PassState _). IsDrained c.args.job.now pass) (sym c.in-Ok.ensures.joined)
    (joined_drained c.args.job.now c.args.first c.args.second c.requires.first c.requires.second)
