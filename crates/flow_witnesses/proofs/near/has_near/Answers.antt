use Rattle.std.proofs.Common.{◌≡◌, ◌↔◌, true, subst}
use Rattle.flow_graph.specs.Paths.{SomePathHas}
use Rattle.flow_why.specs.code.Marked.{Question}
use Rattle.flow_witnesses.proofs.near.has_near.Goals as goal

pub returns-clause-has : goal.returns-clause-has
returns-clause-has c =
    subst (λ (q : Question). (c.has_bit.result ≡ true) ↔ SomePathHas q.shape q.transfer c.args.point) c.near_point_frame-frame.ensures.question
    c.has_bit.ensures
