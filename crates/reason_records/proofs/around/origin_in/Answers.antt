use Rattle.std.proofs.Common.{IfOk, MatchOption, subst}
use Rattle.flow_graph.specs.Analyses.{shape_of}
use Rattle.flow_graph.specs.Runs.{IsDoubtful}
use Rattle.flow_reasons.specs.Doubts.{IsDoubtOrigin}
use Rattle.tac_program.specs.Programs.{Program}
use Rattle.reason_records.proofs.around.origin_in.Goals as goal

pub returns : goal.returns
returns c =
    subst
    (λ (p : Program). IfOk c.doubt_origin.result
    (λ found. MatchOption found (¬ (IsDoubtful (shape_of p) c.args.point)) (IsDoubtOrigin p c.args.point)))
    c.in_ok-reasons.ensures c.doubt_origin.ensures
