use Rattle.std.proofs.Common.{Bool, false, List, length, slice_index_or, refl, ap, ◌∙◌}
use Rattle.flow_bounds.specs.code.Frames.{IsFrame}
use Rattle.flow_bounds.proofs.bounds.Groups.{columns_are_below}
use Rattle.flow_bounds.proofs.group.below.Goals as goal

pub returns-clause-below : goal.returns-clause-below
returns-clause-below c =
    let group = c.requires.group in
    let tables = c.requires.tables in
    let known = c.requires.known in
    let formed : IsFrame _ = record {
      numbered = c.points.ensures.numbered;
      few_points = group.few_points;
      few_procedures = c.procedures.ensures.few;
      inside = group.inside;
      places = group.placed.size;
      placed = λ x there inside.
          let is = group.placed.placed x there (c.points.ensures.numbered.procedure_in_range x there) inside in (is.low, is.there);
      within = group.placed.within;
      gens = group.gens_count;
      kills = group.kills_count;
      through = known.through_count;
      leads = ap length c.as_slice.ensures.value ∙ tables.never_count;
      hung = known.hung_count;
      called = ap length c.as_slice-2.ensures.value ∙ tables.never_count;
      taken = known.paths.count;
    } in
    record {
      formed = formed;
      below = columns_are_below c.args.problem.now _ c.args.group.now.columns.now formed c.requires.linked group.few group.touched
          group.gens group.kills group.boundary refl known.paths.flags known.through
          (λ p. ap (λ (l : List Bool). slice_index_or l p false) c.as_slice-2.ensures.value ∙ tables.never p)
          (λ p. ap (λ (l : List Bool). slice_index_or l p false) c.as_slice.ensures.value ∙ tables.never p)
          known.hung;
    }
