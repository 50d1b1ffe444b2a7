use Rattle.std.proofs.Common.{false}
use Rattle.flow_runs.proofs.deliveries.Deliveries.{delivers_as}
use Rattle.flow_paths.specs.Paths.{IsJsonWithPaths}
use Rattle.flow_views.specs.Json.{program_line}
use Rattle.view_commands.proofs.lists.Sourced.{sourced_is}
use Rattle.view_commands.proofs.views.push_json_paths.Goals as goal

pub returns-clause-delivers : goal.returns-clause-delivers
returns-clause-delivers g c =
    delivers_as _ _ _ _ c.push_lines.result
    (λ out is. sourced_is c.args.shown.source.now (program_line c.args.graph.now) (IsJsonWithPaths false c.args.graph.now c.args.shown.view) c.in_ok-lines.lines out
    c.in_ok-lines.ensures.first c.in_ok-lines.ensures.lines is)
    c.push_lines.ensures.delivers
