use Rattle.std.proofs.Common.{◌≡◌, ◌∙◌, ℕ, Bool, List, flat_map, take, ap, arith}
use Rattle.flow_graph.specs.declared.analysis.Analysis.{Analysis}
use Rattle.flow_graph.specs.declared.analysis.Analysis.TheVariants.{Reach}
use Rattle.flow_graph.specs.declared.analysis.TheConstants.Analysis as all
use Rattle.text_pieces.proofs.sinks.Taking.{takes_as, takes_then}
use Rattle.tac_program.specs.Programs.{Program}
use Rattle.flow_views.specs.code.ViewProgram.{known_of}
use Rattle.flow_reports.specs.Reports.{Knowledge}
use Rattle.flow_views.specs.Dots.{label_line}
use Rattle.block_dots.specs.BlockDots.{block_lines}
use Rattle.flow_views.specs.Views.{analysis_if, is_chosen}
use Rattle.flow_views.proofs.texts.Walks.{flat_map-passing, walk_next}
use Rattle.block_dots.proofs.nodes.write_facts.Goals as goal

pub loop-analysis-preserved : goal.loop-analysis-preserved
loop-analysis-preserved g c = takes_as _ _ _ _ (takes_then _ _ _ _ _ c.loop-analysis.invariant c.write_fact_if.ensures)
    (walk_next _ all.ALL c.loop-analysis.analysis-index Reach c.loop-analysis-test.true)

pub returns : goal.returns
returns g c =
    let program : Program = c.args.shown.now.found.graph.now in
    let known : Knowledge = known_of c.args.shown.now in
    let lines : Analysis → List ℕ = (λ a. flat_map label_line (block_lines program known c.args.shown.now.view c.args.block.leader a)) in
    let shown : Analysis → Bool = is_chosen c.args.shown.now.view.facts in
    let all_of_them : c.loop-analysis.analysis-index ≡ 4 = omega (arith, c.loop-analysis.auto.analysis-index-end, c.loop-analysis-test.false) in
    takes_as _ _ _ _ c.loop-analysis.invariant
    (ap (λ n. flat_map (λ a. flat_map lines (analysis_if (shown a) a)) (take n all.ALL)) all_of_them ∙ flat_map-passing lines shown all.ALL)
