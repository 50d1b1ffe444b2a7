use Rattle.std.proofs.Common.{ℕ, Option, Some, None, MatchOption, refl, inl, inr, subst, sym}
use Rattle.std.specs.Prelude.{unwrap_or}
use Rattle.flow_graph.specs.Analyses.{shape_of}
use Rattle.flow_graph.specs.Runs.{IsDoubtful}
use Rattle.flow_reasons.specs.Doubts.{IsDoubtOrigin}
use Rattle.tac_program.specs.Programs.{Program}
use Rattle.reason_records.specs.Around.{TellsDoubt}
use Rattle.reason_records.proofs.around.doubt_origin_of_kept.Goals as goal

told : (program : Program) (point : ℕ) (found : Option ℕ)
    → MatchOption found (¬ (IsDoubtful (shape_of program) point)) (IsDoubtOrigin program point)
    → TellsDoubt program point (unwrap_or found 4294967295)
told program point None none = inr (refl, none)
told program point (Some origin) is = inl is

pub returns-clause-told : goal.returns-clause-told
returns-clause-told c =
    subst (λ (p : Program). TellsDoubt p c.args.point c.unwrap_or.result) c.in_ok-graph.ensures.graph
    (subst (TellsDoubt c.in_ok-graph.graph c.args.point) (sym c.unwrap_or.ensures)
    (told c.in_ok-graph.graph c.args.point c.in_ok-found.found c.in_ok-found.ensures))
