use Rattle.std.proofs.Common.{IfOk, MatchOption, subst}
use Rattle.flow_graph.specs.Problems.{may_shape}
use Rattle.gen_kill.specs.Selections.{column_transfer}
use Rattle.flow_why.specs.Witnesses.{IsNeverPassed, IsThroughWitness}
use Rattle.flow_why.specs.code.Frames.{question_of}
use Rattle.flow_why.specs.code.Ways.{AskedBit}
use Rattle.flow_why.proofs.solutions.Frames.{of_column}
use Rattle.flow_witnesses.proofs.why.Why.through.Goals as goal

pub returns : goal.returns
returns c =
    let here = c.self.inside in
    subst (λ (a : AskedBit). IfOk c.through_of.result (λ found. MatchOption found
    (IsNeverPassed (may_shape a.form.program a.form.analysis) (column_transfer a.form a.column) c.args.callee c.args.effect)
    (λ hops. IsThroughWitness (may_shape a.form.program a.form.analysis) (column_transfer a.form a.column) c.args.callee c.args.effect hops.items)))
    c.self.view_is
    (of_column here.ways.now (record { form = here.problem.now; column = here.column }) (question_of c.frame_of-frame.result)
    c.frame_of-frame.ensures.question c.self.invariant.over
    (λ s t n. IfOk c.through_of.result (λ found. MatchOption found (IsNeverPassed s t c.args.callee c.args.effect)
    (λ hops. IsThroughWitness s t c.args.callee c.args.effect hops.items))) c.through_of.ensures)
