use Rattle.std.proofs.Common.{IfOk, MatchOption, subst}
use Rattle.flow_links.specs.Shapes.{directed_shape}
use Rattle.flow_why.specs.PointBits.{AskedPoints, asked_transfer}
use Rattle.flow_why.specs.Witnesses.{IsNeverPassed, IsThroughWitness}
use Rattle.flow_why.specs.code.Frames.{question_of}
use Rattle.flow_why.proofs.solutions.Frames.{of_points}
use Rattle.flow_witnesses.proofs.point_why.PointWhy.through.Goals as goal

pub returns : goal.returns
returns c =
    let here = c.self.inside in
    subst (λ (a : AskedPoints). IfOk c.through_of.result (λ found. MatchOption found
    (IsNeverPassed (directed_shape a.linked) (asked_transfer a) c.args.callee c.args.effect)
    (λ hops. IsThroughWitness (directed_shape a.linked) (asked_transfer a) c.args.callee c.args.effect hops.items))) c.self.view_is
    (of_points here.ways.now here.bit.now (question_of c.point_frame-frame.result) c.point_frame-frame.ensures.question
    (λ s t n. IfOk c.through_of.result (λ found. MatchOption found (IsNeverPassed s t c.args.callee c.args.effect)
    (λ hops. IsThroughWitness s t c.args.callee c.args.effect hops.items))) c.through_of.ensures)
