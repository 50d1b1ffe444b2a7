use Rattle.std.proofs.Common.{ℕ, List, ◌<◌, sym, ap, subst, ◌∙◌}
use Rattle.flow_graph.specs.Points.{point_count}
use Rattle.flow_links.specs.Shapes.{LinkedProgram}
use Rattle.flow_bounds.specs.Bounds.{is_in_words}
use Rattle.flow_bounds.proofs.bounds.Settled.{has, in_shape}
use Rattle.flow_bounds.proofs.settled.is_had.Goals as goal

pub returns-then-frame-point : goal.returns-then-frame-point
returns-then-frame-point c = λ is.
    in_shape c.args.problem.now c.args.frame.now.links.now _ c.args.point c.requires.linked
    (has c.args.frame.now c.args.bounded.now c.requires.below.formed c.requires.bounded _ c.args.place c.args.point c.requires.few
    (subst (λ (l : LinkedProgram). c.args.point < point_count l.program) (sym c.requires.linked) c.requires.there) c.requires.inside
    (c.requires.below.below c.args.place c.requires.place) c.if-frame-point.true
    (ap (λ (l : List ℕ). is_in_words c.args.frame.now l c.args.point c.args.place) (sym c.as_slice.ensures.value) ∙ (sym c.has.ensures ∙ is)))
