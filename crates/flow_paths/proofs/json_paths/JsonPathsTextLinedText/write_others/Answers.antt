use Rattle.std.proofs.Common.{ℕ, List, Option, ap}
use Rattle.text_pieces.proofs.sinks.Taking.{takes_as, takes_then}
use Rattle.doubt_origins.specs.Origins.{origins_in}
use Rattle.flow_views.specs.code.ViewProgram.{known_of}
use Rattle.flow_paths.specs.Paths.{remark_with_path}
use Rattle.flow_paths.specs.code.Lined.{rest_with}
use Rattle.source_lines.specs.SourceLines.{Lined}
use Rattle.flow_paths.specs.code.Arounds.{around_at, sets_of}
use Rattle.flow_paths.specs.code.UnsetPaths.{hops_at}
use Rattle.flow_paths.proofs.lists.Telling.{same_lines}
use Rattle.flow_paths.proofs.json_paths.JsonPathsTextLinedText.write_others.Goals as goal

pub returns : goal.returns
returns g c =
    let shown = c.self.inside.shown in
    let json : List (Option ℕ) → List ℕ =
    λ origins. rest_with c.self.inside.changes (origins_in origins)
    (remark_with_path (hops_at c.self.inside.paths) (sets_of (around_at c.self.inside.around.arounds))) shown.found.graph.now (known_of shown) shown.view in
    let lines = takes_as _ _ _ _ c.write_lines.ensures (ap json c.as_slice.ensures.value) in
    let doubts =
    same_lines (json c.self.inside.origins.items) c.self.inside.graph.now shown.found.graph.now c.deref.result.now c.self.inside.around.doubts.items
    c.self.invariant.2 c.deref.ensures.value in
    takes_as _ _ _ _ (takes_then _ _ _ _ _ (takes_as _ _ _ _ (takes_then _ _ _ _ _ lines c.write_doubts.ensures) doubts)
    c.write_end.ensures) (ap (λ (lined : Lined). lined.others) c.self.view_is)
