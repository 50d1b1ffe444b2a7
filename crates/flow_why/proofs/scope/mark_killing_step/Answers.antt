use Rattle.std.proofs.Common.{◌≡◌, ◌<◌, true, false, length, slice_index_or, sym, subst}
use Rattle.flow_graph.specs.declared.edge.Edge.TheVariants.{Step}
use Rattle.flow_links.specs.Shapes.{directed_shape}
use Rattle.flow_why.proofs.scope.mark_killing_step.Goals as goal

pub procedure_of-requires : goal.procedure_of-requires
procedure_of-requires c = (c.requires.frame.numbered.edge_in_range (Step c.args.at c.args.to) c.requires.there).0

pub returns-then-kills-clause-kills : goal.returns-then-kills-clause-kills
returns-then-kills-clause-kills c kill =
    let shape = directed_shape c.args.frame.now.links.now in
    let at = (c.requires.frame.numbered.edge_in_range (Step c.args.at c.args.to) c.requires.there).0 in
    let there : shape.procedure_of c.args.at < length c.args.marks.now =
    subst (λ n. shape.procedure_of c.args.at < n) (sym c.requires.count) (c.requires.frame.numbered.procedure_in_range c.args.at at) in
    subst (λ p. slice_index_or c.mark.new.marks p false ≡ true) c.procedure_of.ensures
    (c.mark.ensures.here (subst (λ p. p < length c.args.marks.now) (sym c.procedure_of.ensures) there))
