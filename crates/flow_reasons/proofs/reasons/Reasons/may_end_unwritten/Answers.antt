use Rattle.std.proofs.Common.{◌≡◌, ◌+◌, ◌↔◌, true, IfOk, ℕ, Bool, suc, arith, sym, subst}
use Rattle.std.proofs.lemmas.Result.{IfOk-weaker}
use Rattle.tac_program.specs.Programs.{Program}
use Rattle.flow_graph.specs.Analyses.{shape_of}
use Rattle.flow_graph.specs.Paths.{SomeBackwardPathHas, SomePathHas}
use Rattle.flow_graph.specs.Points.{point_count}
use Rattle.flow_links.specs.Shapes.{directed_shape}
use Rattle.flow_why.specs.PointBits.{StatementBit, point_transfer}
use Rattle.flow_graph.specs.Transfers.{writes}
use Rattle.flow_reasons.specs.Meetings.{MayEndUnwritten, passing}
use Rattle.flow_reasons.specs.code.Marks.{AreMarks}
use Rattle.flow_reasons.proofs.meetings.Meetings.{passed_backward}
use Rattle.flow_reasons.proofs.meetings.Problems.{write_marks}
use Rattle.flow_reasons.proofs.reasons.Reasons.may_end_unwritten.Goals as goal

pub returns : goal.returns
returns c =
    let here = c.self.inside in
    let program = here.graph.now in
    let linked = here.backward.linked in
    let stops : ℕ → Bool = λ x. writes program x c.args.variable in
    let marks = subst (AreMarks (point_count program) stops) (sym c.as_slice.ensures.value)
    (write_marks program here.live c.args.variable c.in_ok-writes.writes.items c.self.invariant.live_is c.in_ok-writes.ensures) in
    let passed = passed_backward program c.self.invariant.sound stops c.as_slice.result.now marks linked (c.args.point + 1)
    c.self.invariant.backward_is in
    let next : c.args.point + 1 ≡ suc c.args.point = omega arith in
    subst (λ (p : Program). IfOk c.path_has.result (λ may. (may ≡ true) ↔ MayEndUnwritten p c.args.variable c.args.point)) c.self.view_is
    (IfOk-weaker c.path_has.result _ _
    (λ may tells. (
      λ yes. subst (SomeBackwardPathHas (shape_of program) (passing stops)) next (passed.0 (tells.0 yes)),
      λ some. tells.1 (passed.1 (subst (SomeBackwardPathHas (shape_of program) (passing stops)) (sym next) some)),
    ))
    (subst (λ (b : StatementBit). IfOk c.path_has.result (λ has. (has ≡ true)
    ↔ SomePathHas (directed_shape linked) (point_transfer linked.backward b) (c.args.point + 1))) c.new-bit.ensures c.path_has.ensures))
