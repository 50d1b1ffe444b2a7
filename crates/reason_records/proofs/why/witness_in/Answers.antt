use Rattle.std.proofs.Common.{IfOk, MatchOption, subst}
use Rattle.flow_graph.specs.Paths.{SomePathHas}
use Rattle.flow_graph.specs.Problems.{may_shape}
use Rattle.flow_why.specs.Witnesses.{IsWitness}
use Rattle.gen_kill.specs.Selections.{Selection, column_transfer}
use Rattle.reason_records.proofs.why.witness_in.Goals as goal

pub returns : goal.returns
returns c =
    subst (λ (s : Selection). IfOk c.witness_over.result (λ found. MatchOption found
    (SomePathHas (may_shape s.program s.analysis) (column_transfer s c.args.fact.bit) c.args.fact.point → ⊥)
    (λ hops. IsWitness (may_shape s.program s.analysis) (column_transfer s c.args.fact.bit) c.args.fact.point hops.items)))
    c.in_ok-problem.ensures c.witness_over.ensures
