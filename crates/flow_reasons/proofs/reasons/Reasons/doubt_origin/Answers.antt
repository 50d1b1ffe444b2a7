use Rattle.std.proofs.Common.{IfOk, MatchOption, subst}
use Rattle.tac_program.specs.Programs.{Program}
use Rattle.flow_graph.specs.Analyses.{shape_of}
use Rattle.flow_graph.specs.Runs.{IsDoubtful}
use Rattle.flow_reasons.specs.Doubts.{IsDoubtOrigin}
use Rattle.flow_reasons.proofs.reasons.Reasons.doubt_origin.Goals as goal

pub returns : goal.returns
returns c =
    subst (λ (p : Program). IfOk c.doubt_origin.result
    (λ found. MatchOption found (¬ (IsDoubtful (shape_of p) c.args.point)) (λ origin. IsDoubtOrigin p c.args.point origin)))
    c.self.view_is c.doubt_origin.ensures
