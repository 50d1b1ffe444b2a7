use Rattle.std.proofs.Common.{◌∙◌, ℕ, Bool, List, sym, subst}
use Rattle.flow_graph.specs.Points.{point_count}
use Rattle.flow_links.specs.Shapes.{directed_shape}
use Rattle.flow_regions.specs.code.Regions.{ArePlaced}
use Rattle.gk_solve.proofs.slices.Slices.{written_over}
use Rattle.flow_bounds.proofs.settling.tell_columns.Goals as goal

pub tell_inside-requires-clause-placed : goal.tell_inside-requires-clause-placed
tell_inside-requires-clause-placed c =
    let links = c.args.asking.shared.links.now in
    let shape = directed_shape links in
    let points = point_count links.program in
    let placed = c.in_ok-points.ensures.placed in
    let written = written_over c.args.room.now.places.len c.points_of.new.places c.args.room.now.places.items c.args.room.now.places.ok.0
    (placed.size ∙ sym c.requires.places) in
    subst (λ (l : List ℕ). ArePlaced shape c.as_slice-2.result.now points shape.procedures c.as_slice-3.result.now l) (sym written)
    (subst (λ (l : List Bool). ArePlaced shape l points shape.procedures c.as_slice-3.result.now c.points_of.new.places)
    (c.as_slice.ensures.value ∙ sym c.as_slice-2.ensures.value)
    (subst (λ (l : List ℕ). ArePlaced shape c.as_slice.result.now points shape.procedures l c.points_of.new.places) (sym c.as_slice-3.ensures.value) placed))
