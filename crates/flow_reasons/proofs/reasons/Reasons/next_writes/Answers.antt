use Rattle.std.proofs.Common.{◌≡◌, ◌<◌, ◌+◌, IfOk, length, arith, sym, subst, ◌∙◌}
use Rattle.std.proofs.lemmas.Result.{IfOk-weaker}
use Rattle.tac_program.specs.Programs.{Program}
use Rattle.flow_graph.specs.Points.{point_count}
use Rattle.gen_kill.specs.Selections.{Selection, column_count}
use Rattle.flow_reasons.specs.Lists.{AreAll}
use Rattle.flow_graph.specs.Transfers.{writes}
use Rattle.flow_reasons.specs.Meetings.{IsNextWrite}
use Rattle.flow_reasons.specs.code.Marks.{AreMarks, IsMet}
use Rattle.flow_reasons.proofs.lists.Rising.{all_as}
use Rattle.flow_reasons.proofs.meetings.Problems.{next_write, write_marks}
use Rattle.flow_reasons.proofs.reasons.Reasons.next_writes.Goals as goal

pub kill_marks-requires : goal.kill_marks-requires
kill_marks-requires c =
    subst (λ (f : Selection). c.args.variable < column_count f) (sym c.self.invariant.live_is)
    (subst (λ (p : Program). c.args.variable < length p.variable_names) (sym c.self.view_is) c.requires.variable)

pub returns : goal.returns
returns c =
    let here = c.self.inside in
    let program = here.graph.now in
    let marks = write_marks program here.live c.args.variable c.in_ok-writes.writes.items c.self.invariant.live_is c.in_ok-writes.ensures in
    let wanted = subst (AreMarks (point_count program) (λ x. writes program x c.args.variable)) (sym c.as_slice-2.ensures.value) marks in
    let same : c.as_slice.result.now ≡ c.as_slice-2.result.now = c.as_slice.ensures.value ∙ sym c.as_slice-2.ensures.value in
    subst (λ (p : Program). IfOk c.met_points.result (λ list. AreAll (IsNextWrite p c.args.variable c.args.point) list.items)) c.self.view_is
    (IfOk-weaker c.met_points.result _ _
    (λ list are. all_as (IsMet here.backward.linked c.as_slice-2.result.now c.as_slice-2.result.now (c.args.point + 1))
    (IsNextWrite program c.args.variable c.args.point) list.items
    (λ q. next_write program c.self.invariant.sound here.backward.linked (c.args.point + 1) q c.args.variable c.args.point
    c.as_slice-2.result.now c.self.invariant.backward_is wanted (omega arith)) are)
    (subst (λ s. IfOk c.met_points.result
    (λ list. AreAll (IsMet here.backward.linked c.as_slice-2.result.now s (c.args.point + 1)) list.items)) same c.met_points.ensures))
