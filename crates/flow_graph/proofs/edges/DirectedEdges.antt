-- The edges of a may form that goes backwards
use Rattle.std.proofs.Common.{◌≡◌, List, true, map, sym, ap, ◌∙◌}
use Rattle.tac_program.specs.Programs.{Program}
use Rattle.flow_graph.specs.Analyses.{is_backward}
use Rattle.flow_graph.specs.Problems.{may_shape}
use Rattle.flow_graph.specs.Edges.{edges}
use Rattle.flow_graph.specs.Paths.{Edge}
use Rattle.flow_graph.specs.Reversals.{reversed_edge}
use Rattle.flow_graph.specs.Universes.{Analysis, Reach, Live, Avail, Busy}
use Rattle.flow_graph.proofs.paths.Reversal.{edges-twice}

-- edges that are those of the graph, once they are reversed
pub reversed_are_directed : (program : Program) (analysis : Analysis) (reversed : List Edge) → is_backward analysis ≡ true
    → map reversed_edge reversed ≡ edges program
    → reversed ≡ (may_shape program analysis).edges
reversed_are_directed program Reach reversed backward are = absurd (cc backward)
reversed_are_directed program Live reversed backward are = sym (edges-twice reversed) ∙ ap (map reversed_edge) are
reversed_are_directed program Avail reversed backward are = absurd (cc backward)
reversed_are_directed program Busy reversed backward are = sym (edges-twice reversed) ∙ ap (map reversed_edge) are
