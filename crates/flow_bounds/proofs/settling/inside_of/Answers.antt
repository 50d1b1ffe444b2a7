use Rattle.std.proofs.Common.{◌∙◌, Bool, List, length, sym, ap, subst}
use Rattle.flow_graph.specs.Points.{point_count}
use Rattle.flow_links.specs.Shapes.{directed_shape}
use Rattle.flow_regions.specs.code.Regions.{HoldsTouched}
use Rattle.gk_solve.proofs.slices.Slices.{written_over}
use Rattle.flow_bounds.proofs.settling.inside_of.Goals as goal

pub returns-clause-touched : goal.returns-clause-touched
returns-clause-touched c =
    let links = c.args.asking.shared.links.now in
    subst (λ (l : List Bool). HoldsTouched c.args.asking.shared.problem.now (directed_shape links) c.args.columns.now l (point_count links.program))
    (sym (written_over c.in_ok-inside.inside.len c.put_all_inside.new.inside c.in_ok-inside.inside.items c.in_ok-inside.inside.ok.0
    (c.put_all_inside.ensures.count ∙ ap length c.as_mut_slice.ensures.value))) c.put_all_inside.ensures.touched
