use Rattle.std.proofs.Common.{IfOk, MatchOption, subst}
use Rattle.flow_graph.specs.Paths.{SomePathHas}
use Rattle.flow_links.specs.Shapes.{directed_shape}
use Rattle.flow_why.specs.PointBits.{AskedPoints, asked_transfer}
use Rattle.flow_why.specs.Witnesses.{IsWitness}
use Rattle.flow_why.specs.code.Frames.{question_of}
use Rattle.flow_why.proofs.solutions.Frames.{of_points}
use Rattle.flow_witnesses.proofs.point_why.PointWhy.witness.Goals as goal

pub returns-clause-witness : goal.returns-clause-witness
returns-clause-witness c =
    let here = c.self.inside in
    subst (λ (a : AskedPoints). IfOk c.witness_of.result (λ found. MatchOption found
    (SomePathHas (directed_shape a.linked) (asked_transfer a) c.args.point → ⊥)
    (λ hops. IsWitness (directed_shape a.linked) (asked_transfer a) c.args.point hops.items))) c.self.view_is
    (of_points here.ways.now here.bit.now (question_of c.point_frame-frame.result) c.point_frame-frame.ensures.question
    (λ s t n. IfOk c.witness_of.result (λ found. MatchOption found (SomePathHas s t c.args.point → ⊥)
    (λ hops. IsWitness s t c.args.point hops.items))) c.witness_of.ensures.witness)
