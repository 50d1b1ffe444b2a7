use Rattle.std.proofs.Common.{◌≡◌, ◌∙◌, ap, sym, subst, Contains}
use Rattle.flow_graph.specs.Edges.{edges}
use Rattle.flow_graph.specs.declared.edge.Edge.TheVariants.{Step}
use Rattle.flow_graph.specs.Paths.{IsEdge, source_of}
use Rattle.flow_links.specs.Shapes.{directed_shape}
use Rattle.flow_why.specs.PointBits.{step_statement}
use Rattle.flow_why.specs.code.Frames.{GeneratesAt, step_begin, step_end}
use Rattle.flow_why.proofs.visits.Statements.{statement_is, step_there}
use Rattle.flow_why.proofs.run.gen_edge.Goals as goal

pub gen_here-requires : goal.gen_here-requires
gen_here-requires c =
    let frame = c.args.frame.now in
    let b = frame.links.now.backward in
    let from = c.in-Step.from in
    let to = c.in-Step.to in
    let at_is : c.directed_step-at.result.0 ≡ step_begin b from to =
    c.directed_step-at.ensures.from ∙ ap (λ d. step_begin d from to) c.direction.ensures in
    let to_is : c.directed_step-at.result.1 ≡ step_end b from to =
    c.directed_step-at.ensures.to ∙ ap (λ d. step_end d from to) c.direction.ensures in
    let there = step_there frame.links.now from to (subst (Contains (edges frame.links.now.program)) c.in-Step.is c.requires.there) in
    let gens = subst (λ e. GeneratesAt frame (source_of e)) c.in-Step.is c.requires.gens in record {
      frame = c.requires.frame;
      marks = c.requires.marks;
      there = subst (λ x. IsEdge (directed_shape frame.links.now) (Step x c.directed_step-at.result.1)) (sym at_is)
          (subst (λ y. IsEdge (directed_shape frame.links.now) (Step (step_begin b from to) y)) (sym to_is) there);
      gens = gens c.directed_step-at.result.0 c.directed_step-at.result.1
          (ap (λ x. step_statement b x c.directed_step-at.result.1) at_is
          ∙ (ap (λ y. step_statement b (step_begin b from to) y) to_is ∙ statement_is b from to));
    }
