use Rattle.std.proofs.Common.{◌∙◌, ℕ, Bool, List, length, ap, sym, subst}
use Rattle.flow_graph.specs.Points.{point_count}
use Rattle.flow_links.specs.Shapes.{directed_shape}
use Rattle.flow_regions.specs.code.Effects.{AreTold}
use Rattle.flow_regions.specs.code.Outside.{AreCalled, AreLeading}
use Rattle.flow_regions.specs.code.Ranks.{AreRanked}
use Rattle.flow_regions.specs.code.Regions.{ArePlaced}
use Rattle.flow_regions.specs.declared.effects.Does.TheVariants.{Generates, Kills}
use Rattle.flow_bounds.proofs.settling.tell_inside.Goals as goal

pub leading-requires-clause-ranked : goal.leading-requires-clause-ranked
leading-requires-clause-ranked c =
    subst (AreRanked (directed_shape c.args.asking.shared.links.now)) (sym c.as_slice.ensures.value) c.requires.asking.shared.base.ranked

pub tell-requires-clause-group : goal.tell-requires-clause-group
tell-requires-clause-group c =
    let links = c.args.asking.shared.links.now in
    let shape = directed_shape links in
    let points = point_count links.program in
    let selection = c.args.asking.shared.problem.now in
    let columns = c.args.region.columns.now in
    let places = c.as_slice-places.ensures.value in
    record {
      few = c.requires.few;
      low = c.requires.low;
      inside = c.requires.inside;
      placed = subst (λ (l : List ℕ). ArePlaced shape c.args.region.inside.now points shape.procedures c.args.region.points.now l) (sym places) c.requires.placed;
      few_points = c.requires.few_points;
      touched = c.requires.touched;
      gens_count = ap length c.as_slice-2.ensures.value ∙ c.in_ok-gens.ensures.count;
      gens = subst (λ (l : List ℕ). AreTold selection Generates columns (length columns) c.as_slice-places.result.now (length c.args.region.points.now) l)
          (sym c.as_slice-2.ensures.value) c.in_ok-gens.ensures.told;
      kills_count = ap length c.as_slice-3.ensures.value ∙ c.in_ok-kills.ensures.count;
      kills = subst (λ (l : List ℕ). AreTold selection Kills columns (length columns) c.as_slice-places.result.now (length c.args.region.points.now) l)
          (sym c.as_slice-3.ensures.value) c.in_ok-kills.ensures.told;
      boundary = c.boundary_of.ensures;
      leads_count = ap length c.as_slice-4.ensures.value ∙ c.in_ok-leads.ensures.count;
      leads = subst (λ (l : List Bool). AreLeading shape c.args.region.inside.now l) (sym c.as_slice-4.ensures.value) c.in_ok-leads.ensures.leads;
      called_count = ap length c.as_slice-5.ensures.value ∙ c.in_ok-called.ensures.count;
      called = λ site x p call outside in_it.
          (subst (λ (l : List Bool). AreCalled shape c.args.region.inside.now l shape.procedures) (sym c.as_slice-5.ensures.value)
          c.in_ok-called.ensures.called) site x p call.0 call outside in_it;
    }
