use Rattle.std.proofs.Common.{List, ℕ, ◌++◌, refl}
use Rattle.flow_runs.proofs.deliveries.Deliveries.{delivers_as}
use Rattle.json_texts.specs.Changes.{IsJsonChanges, named_program_line}
use Rattle.source_lines.specs.SourceLines.{source_lines}
use Rattle.view_commands.proofs.lists.Sourced.{sourced_is}
use Rattle.view_commands.proofs.views.push_html.Goals as goal

pub returns-clause-delivers : goal.returns-clause-delivers
returns-clause-delivers g c =
    let lined = c.in_ok-lines.lines in
    let lines : List ℕ = lined.first ++ source_lines c.args.shown.source.now ++ lined.others in
    delivers_as _ _ _ _ c.push_sourced_page.result
    (λ out is. record {
      lines = lines;
      are_lines = sourced_is c.args.shown.source.now (named_program_line c.args.graph.now) (IsJsonChanges c.args.graph.now c.args.shown.view) lined lines
          c.in_ok-lines.ensures.first c.in_ok-lines.ensures.lines refl;
      is_page = is;
    })
    c.push_sourced_page.ensures.delivers
