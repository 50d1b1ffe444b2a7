use Rattle.std.proofs.Common.{ℕ, Bool, false, List, length, slice_index, slice_index_or, refl, ap, ◌∙◌}
use Rattle.bit_rows.specs.Words.{has_bit}
use Rattle.flow_bounds.specs.code.Frames.{IsFrame}
use Rattle.flow_bounds.proofs.bounds.Groups.{columns_are_above, columns_are_exact}
use Rattle.flow_bounds.proofs.group.above.Goals as goal

pub returns-clause-above : goal.returns-clause-above
returns-clause-above c =
    let group = c.requires.group in
    let tables = c.requires.tables in
    let formed : IsFrame _ = record {
      numbered = c.points.ensures.numbered;
      few_points = group.few_points;
      few_procedures = c.procedures.ensures.few;
      inside = group.inside;
      places = group.placed.size;
      placed = λ x there inside.
          let is = group.placed.placed x there (c.points.ensures.numbered.procedure_in_range x there) inside in (is.low, is.there);
      within = group.placed.within;
      gens = group.gens_count;
      kills = group.kills_count;
      through = ap length c.as_slice.ensures.value ∙ tables.all_count;
      leads = group.leads_count;
      hung = ap length c.as_slice-2.ensures.value ∙ tables.none_count;
      called = group.called_count;
      taken = ap length c.as_slice-3.ensures.value ∙ tables.everywhere_count;
    } in
    record {
      formed = formed;
      above = columns_are_above c.args.problem.now _ c.args.group.now.columns.now formed c.requires.linked group.few group.touched
          group.gens group.kills group.boundary refl
          (λ x there. ap (λ (l : List Bool). slice_index_or l x false) c.as_slice-3.ensures.value ∙ tables.everywhere x there)
          (λ p k there small. ap (λ (l : List ℕ). has_bit (slice_index l p) k) c.as_slice.ensures.value ∙ tables.all p k there small)
          group.called group.leads;
    }

pub returns-clause-exact : goal.returns-clause-exact
returns-clause-exact c =
    let group = c.requires.group in
    let tables = c.requires.tables in
    let formed : IsFrame _ = record {
      numbered = c.points.ensures.numbered;
      few_points = group.few_points;
      few_procedures = c.procedures.ensures.few;
      inside = group.inside;
      places = group.placed.size;
      placed = λ x there inside.
          let is = group.placed.placed x there (c.points.ensures.numbered.procedure_in_range x there) inside in (is.low, is.there);
      within = group.placed.within;
      gens = group.gens_count;
      kills = group.kills_count;
      through = ap length c.as_slice.ensures.value ∙ tables.all_count;
      leads = group.leads_count;
      hung = ap length c.as_slice-2.ensures.value ∙ tables.none_count;
      called = group.called_count;
      taken = ap length c.as_slice-3.ensures.value ∙ tables.everywhere_count;
    } in
    columns_are_exact c.args.problem.now _ c.args.group.now.columns.now formed c.requires.linked group.few group.touched group.gens group.kills
    group.boundary
