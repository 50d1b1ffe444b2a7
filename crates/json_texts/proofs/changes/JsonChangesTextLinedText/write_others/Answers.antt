use Rattle.std.proofs.Common.{List, Option, ℕ, flat_map, ap}
use Rattle.text_pieces.proofs.sinks.Taking.{takes_as, takes_then}
use Rattle.doubt_origins.specs.Origins.{origins_in}
use Rattle.flow_views.specs.Views.{shown_points}
use Rattle.flow_views.specs.code.ViewProgram.{known_of}
use Rattle.json_texts.specs.Changes.{changed_point_line}
use Rattle.source_lines.specs.SourceLines.{Lined}
use Rattle.json_texts.proofs.changes.JsonChangesTextLinedText.write_others.Goals as goal

pub returns : goal.returns
returns g c =
    let shown = c.self.inside.shown in
    let points = takes_as _ _ _ _ c.write_all_points.ensures
    (ap (λ (origins : List (Option ℕ)). flat_map (changed_point_line (origins_in origins) shown.found.graph.now (known_of shown) shown.view.facts)
    (shown_points shown.found.graph.now shown.view)) c.as_slice.ensures.value) in
    takes_as _ _ _ _ (takes_then _ _ _ _ _ (takes_then _ _ _ _ _ points c.write_all_points-2.ensures) c.write_end.ensures)
    (ap (λ (lined : Lined). lined.others) c.self.view_is)
