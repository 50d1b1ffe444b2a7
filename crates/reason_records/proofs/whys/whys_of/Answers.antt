use Rattle.std.proofs.Common.{subst}
use Rattle.tac_program.specs.Programs.{Program}
use Rattle.reason_records.specs.Whys.{AreWhys}
use Rattle.reason_records.proofs.whys.whys_of.Goals as goal

pub returns-clause-told : goal.returns-clause-told
returns-clause-told c =
    let told = c.in_ok-told.told in
    subst (λ (p : Program). AreWhys p c.args.number c.args.asked.now told.whys.items told.hops.items) c.in_ok-graph.ensures.graph
    (c.in_ok-told.ensures c.args.number c.in_ok-analysis.ensures.analysis)
