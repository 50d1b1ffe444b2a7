use Rattle.std.proofs.Common.{◌≡◌, ℕ, ◌-◌, List, flat_map, ap, ◌∙◌, arith}
use Rattle.std.specs.List.{range_with_len}
use Rattle.text_pieces.proofs.sinks.Taking.{takes_as, takes_then}
use Rattle.flow_views.proofs.facts.Tables.{shown_within}
use Rattle.flow_views.proofs.texts.Walks.{walk_more}
use Rattle.flow_views.proofs.view_program.ViewProgram.write_points.Goals as goal

pub write_point-requires-clause-shows : goal.write_point-requires-clause-shows
write_point-requires-clause-shows g c =
    let within =
    shown_within c.args.self.now.found.graph.now c.args.self.now.view.procedure c.args.procedure c.requires.procedure c.requires.shows in (
      omega (arith, within.0, c.points_of-points.ensures.first, c.loop-point.auto.point),
      omega (arith, within.1, c.points_of-points.ensures.end, c.loop-point.auto.point),
    )

pub loop-point-preserved : goal.loop-point-preserved
loop-point-preserved g c = takes_as _ _ _ _ (takes_then _ _ _ _ _ c.loop-point.invariant c.write_point.ensures)
    (walk_more (g.F.PointForm.text c.args.form.now c.args.self.now) c.points_of-points.result.first c.loop-point.point c.loop-point.auto.point)

pub returns : goal.returns
returns g c =
    let text : ℕ → List ℕ = g.F.PointForm.text c.args.form.now c.args.self.now in
    let first : ℕ = c.points_of-points.result.first in
    let all : c.loop-point.point ≡ c.points_of-points.result.end =
    omega (arith, c.points_of-points.ensures.first, c.points_of-points.ensures.end) in
    takes_as _ _ _ _ c.loop-point.invariant
    (ap (λ n. flat_map text (range_with_len first (n - first))) all ∙ ap (flat_map text) c.points_of-points.ensures.numbers)
