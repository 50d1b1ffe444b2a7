use Rattle.std.proofs.Common.{◌∙◌, ℕ, List, flat_map, ap}
use Rattle.text_pieces.proofs.sinks.Taking.{takes_as}
use Rattle.tac_program.specs.Programs.{Program}
use Rattle.flow_graph.specs.declared.analysis.Analysis.{Analysis}
use Rattle.flow_reports.specs.Reports.{Knowledge}
use Rattle.flow_views.specs.Dots.{label_line}
use Rattle.flow_views.specs.Views.{is_chosen}
use Rattle.flow_views.specs.code.ViewProgram.{known_of}
use Rattle.flow_views.specs.declared.view.View.{View}
use Rattle.flow_views.proofs.facts.Tables.{one_chosen}
use Rattle.block_dots.specs.BlockDots.{block_lines}
use Rattle.block_dots.proofs.nodes.write_fact_if.Goals as goal

pub returns : goal.returns
returns g c =
    let program : Program = c.args.shown.now.found.graph.now in
    let known : Knowledge = known_of c.args.shown.now in
    let view : View = c.args.shown.now.view in
    let text : Analysis → List ℕ = λ a. flat_map label_line (block_lines program known view c.args.block.leader a) in
    takes_as _ _ _ _ c.write_sets.ensures
    (ap text c.in-Some.ensures.analysis ∙ one_chosen text (is_chosen view.facts c.args.analysis) c.args.analysis c.in-Some.ensures.some)
