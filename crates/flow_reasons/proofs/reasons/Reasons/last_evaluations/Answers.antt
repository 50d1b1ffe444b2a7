use Rattle.std.proofs.Common.{IfOk, sym, subst}
use Rattle.std.proofs.lemmas.Result.{IfOk-weaker}
use Rattle.tac_program.specs.Programs.{Program}
use Rattle.flow_graph.specs.Points.{point_count}
use Rattle.flow_reasons.specs.Lists.{AreAll}
use Rattle.flow_graph.specs.Transfers.{gens}
use Rattle.flow_graph.specs.declared.analysis.Analysis.TheVariants.{Avail}
use Rattle.flow_reasons.specs.Meetings.{IsLastEvaluation, renews}
use Rattle.flow_reasons.specs.code.Marks.{AreMarks, IsMet}
use Rattle.flow_reasons.proofs.lists.Rising.{all_as}
use Rattle.flow_reasons.proofs.meetings.Problems.{renewal_marks, evaluation_marks, last_evaluation}
use Rattle.flow_reasons.proofs.reasons.Reasons.last_evaluations.Goals as goal

pub returns : goal.returns
returns c =
    let here = c.self.inside in
    let program = here.graph.now in
    let e = c.args.expression in
    let wanted = subst (AreMarks (point_count program) (λ x. gens program Avail x e)) (sym c.as_slice-2.ensures.value)
    (evaluation_marks program here.available e c.in_ok-evaluates.evaluates.items c.self.invariant.available_is c.in_ok-evaluates.ensures) in
    let stops = subst (AreMarks (point_count program) (renews program e)) (sym c.as_slice.ensures.value)
    (renewal_marks program here.available e c.in_ok-renews.renews.items c.self.invariant.available_is c.in_ok-renews.ensures) in
    subst (λ (p : Program). IfOk c.met_points.result (λ list. AreAll (IsLastEvaluation p e c.args.point) list.items)) c.self.view_is
    (IfOk-weaker c.met_points.result _ _
    (λ list are. all_as (IsMet here.forward.linked c.as_slice-2.result.now c.as_slice.result.now c.args.point)
    (IsLastEvaluation program e c.args.point) list.items
    (λ q. last_evaluation program c.self.invariant.sound here.forward.linked c.args.point q e c.as_slice-2.result.now c.as_slice.result.now
    c.self.invariant.forward_is wanted stops) are)
    c.met_points.ensures)
