use Rattle.std.proofs.Common.{flat_map, take}
use Rattle.flow_graph.specs.declared.analysis.TheConstants.Analysis as all
use Rattle.text_pieces.specs.Pieces.{Writes}
use Rattle.flow_views.specs.code.ViewProgram.{known_of}
use Rattle.block_dots.specs.BlockDots.{block_lines}
use Rattle.flow_views.specs.Dots.{label_line}
use Rattle.flow_views.specs.Views.{analysis_if, is_chosen}
use Rattle.block_dots.proofs.nodes.write_facts.Given as goal

abbrev pub invariant-loop-analysis : goal.invariant-loop-analysis
invariant-loop-analysis g l =
    Writes g.K.Sink l.fn.out l.out
    (flat_map (λ a. flat_map (λ a. flat_map label_line (block_lines l.shown.found.graph.now (known_of l.shown) l.shown.view l.block.leader a))
    (analysis_if (is_chosen l.shown.view.facts a) a)) (take l.analysis-index all.ALL))
