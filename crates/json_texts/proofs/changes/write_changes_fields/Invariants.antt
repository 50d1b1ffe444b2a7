use Rattle.std.proofs.Common.{flat_map, take}
use Rattle.flow_graph.specs.declared.analysis.TheConstants.Analysis as all
use Rattle.text_pieces.specs.Pieces.{Writes}
use Rattle.flow_views.specs.code.ViewProgram.{known_of}
use Rattle.json_texts.specs.Changes.{changes_field}
use Rattle.flow_views.specs.Views.{analysis_if, is_chosen}
use Rattle.json_texts.proofs.changes.write_changes_fields.Given as goal

abbrev pub invariant-loop-analysis : goal.invariant-loop-analysis
invariant-loop-analysis g l =
    Writes g.K.Sink l.fn.out l.out
    (flat_map (λ a. flat_map (changes_field l.shown.found.graph.now (known_of l.shown) l.point) (analysis_if (is_chosen l.shown.view.facts a) a)) (take l.analysis-index all.ALL))
