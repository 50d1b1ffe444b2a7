use Rattle.std.proofs.Common.{◌≡◌, ◌↔◌, true, subst}
use Rattle.flow_graph.specs.Paths.{SomePathHas}
use Rattle.flow_links.specs.Shapes.{directed_shape}
use Rattle.flow_why.specs.PointBits.{AskedPoints, asked_transfer}
use Rattle.flow_why.specs.code.Frames.{question_of}
use Rattle.flow_why.proofs.solutions.Frames.{of_points}
use Rattle.flow_witnesses.proofs.point_why.PointWhy.has.Goals as goal

pub returns : goal.returns
returns c =
    let here = c.self.inside in
    subst (λ (a : AskedPoints). (c.has_bit.result ≡ true) ↔ SomePathHas (directed_shape a.linked) (asked_transfer a) c.args.point) c.self.view_is
    (of_points here.ways.now here.bit.now (question_of c.point_frame-frame.result) c.point_frame-frame.ensures.question
    (λ s t n. (c.has_bit.result ≡ true) ↔ SomePathHas s t c.args.point) c.has_bit.ensures)
