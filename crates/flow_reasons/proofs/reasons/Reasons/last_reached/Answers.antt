use Rattle.std.proofs.Common.{MatchOption, subst}
use Rattle.tac_program.specs.Programs.{Program}
use Rattle.flow_reasons.specs.Reached.{IsLastReached, NoneReachedFrom}
use Rattle.flow_reasons.proofs.reasons.Reasons.last_reached.Goals as goal

pub returns : goal.returns
returns c =
    subst (λ (p : Program). MatchOption c.last_reached.result (NoneReachedFrom p c.args.point 0) (λ found. IsLastReached p c.args.point found))
    c.self.view_is c.last_reached.ensures
