use Rattle.std.proofs.Common.{MatchOption, subst}
use Rattle.tac_program.specs.Programs.{Program}
use Rattle.reason_records.specs.Why.{HasNoPath, IsWhy}
use Rattle.reason_records.proofs.answers.Whys.{found_is_why}
use Rattle.reason_records.proofs.why.witness_of.Goals as goal

pub returns-clause-witness : goal.returns-clause-witness
returns-clause-witness c =
    subst (λ (p : Program). MatchOption c.in_ok-found.found (HasNoPath p c.args.fact) (λ hops. IsWhy p c.args.fact hops.items))
    c.in_ok-graph.ensures.graph
    (found_is_why c.in_ok-graph.graph c.args.fact (λ hops. hops.items) c.in_ok-analysis.analysis c.in_ok-found.found
    c.in_ok-analysis.ensures.analysis c.in_ok-analysis.ensures.there c.in_ok-found.ensures)
