use Rattle.std.proofs.Common.{flat_map, take}
use Rattle.flow_graph.specs.declared.analysis.TheConstants.Analysis as all
use Rattle.text_pieces.specs.Pieces.{Writes}
use Rattle.flow_views.specs.code.ViewProgram.{known_of}
use Rattle.flow_views.specs.Dots.{fact_lines, label_line}
use Rattle.flow_views.specs.Views.{analysis_if, is_chosen}
use Rattle.dot_texts.proofs.dots.write_facts.Given as goal

abbrev pub invariant-loop-analysis : goal.invariant-loop-analysis
invariant-loop-analysis g l =
    Writes g.K.Sink l.fn.out l.out
    (flat_map (λ a. flat_map (λ a. flat_map label_line (fact_lines l.shown.found.graph.now (known_of l.shown) l.shown.view l.point a)) (analysis_if (is_chosen l.shown.view.facts a) a)) (take l.analysis-index all.ALL))
