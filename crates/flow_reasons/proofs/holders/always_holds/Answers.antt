use Rattle.std.proofs.Common.{◌≡◌, ◌↔◌, true, sym, subst}
use Rattle.flow_graph.specs.Points.{point_count}
use Rattle.flow_graph.specs.Paths.{SomePathHas}
use Rattle.flow_links.specs.Shapes.{directed_shape}
use Rattle.flow_why.specs.PointBits.{StatementBit, point_transfer}
use Rattle.flow_reasons.specs.code.Holding.{is_lost, is_made}
use Rattle.flow_reasons.specs.code.Marks.{AreAllBelow, AreMarks}
use Rattle.flow_reasons.proofs.meetings.Holding.{always_is}
use Rattle.flow_reasons.proofs.holders.always_holds.Goals as goal

pub returns : goal.returns
returns c =
    let asked = c.args.asked.now in
    let program = asked.graph.now in
    let linked = asked.ways.now.linked in
    let e = asked.expression in
    let made = subst (AreMarks (point_count program) (is_made program e c.args.variable)) (sym c.as_slice-2.ensures.value) c.in_ok-made.ensures in
    let lost = subst (AreAllBelow (λ x. is_lost program e c.args.variable x ≡ true) (point_count program)) (sym c.as_slice.ensures.value)
    c.in_ok-lost.ensures in
    always_is program c.requires.asked.sound e c.args.variable c.as_slice-2.result.now c.as_slice.result.now made lost linked asked.at
    c.in_ok-lacks.lacks c.requires.asked.ways_are
    (subst (λ (b : StatementBit). (c.in_ok-lacks.lacks ≡ true) ↔ SomePathHas (directed_shape linked) (point_transfer linked.backward b) asked.at)
    c.new-bit.ensures c.in_ok-lacks.ensures)
