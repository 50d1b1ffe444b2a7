use Rattle.std.proofs.Common.{IfOk, MatchOption, subst}
use Rattle.flow_graph.specs.Paths.{SomePathHas}
use Rattle.flow_graph.specs.Problems.{may_shape}
use Rattle.gen_kill.specs.Selections.{column_transfer}
use Rattle.flow_why.specs.Witnesses.{IsWitness}
use Rattle.flow_why.specs.code.Frames.{question_of}
use Rattle.flow_why.specs.code.Ways.{AskedBit}
use Rattle.flow_why.proofs.solutions.Frames.{of_column}
use Rattle.flow_witnesses.proofs.why.Why.witness.Goals as goal

pub returns-clause-witness : goal.returns-clause-witness
returns-clause-witness c =
    let here = c.self.inside in
    subst (λ (a : AskedBit). IfOk c.witness_of.result (λ found. MatchOption found
    (SomePathHas (may_shape a.form.program a.form.analysis) (column_transfer a.form a.column) c.args.point → ⊥)
    (λ hops. IsWitness (may_shape a.form.program a.form.analysis) (column_transfer a.form a.column) c.args.point hops.items))) c.self.view_is
    (of_column here.ways.now (record { form = here.problem.now; column = here.column }) (question_of c.frame_of-frame.result)
    c.frame_of-frame.ensures.question c.self.invariant.over
    (λ s t n. IfOk c.witness_of.result (λ found. MatchOption found (SomePathHas s t c.args.point → ⊥)
    (λ hops. IsWitness s t c.args.point hops.items))) c.witness_of.ensures.witness)
