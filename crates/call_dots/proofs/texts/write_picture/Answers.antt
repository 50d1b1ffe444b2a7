use Rattle.std.proofs.Common.{◌++◌, ◌∙◌, ℕ, List, All, codes, flat_map, ap, subst, sym}
use Rattle.text_pieces.proofs.sinks.Taking.{takes_as, takes_then}
use Rattle.flow_reports.specs.code.Findings.{knowledge_of}
use Rattle.flow_views.specs.Dots.{text_if}
use Rattle.call_dots.specs.CallDots.{all_nodes, edge_line, head, legend}
use Rattle.call_dots.specs.code.Tables.{IsEdgeIn, recursion_of}
use Rattle.call_dots.specs.declared.calls.CallEdge.{CallEdge}
use Rattle.call_dots.proofs.named.Calls.{edges_are_in}
use Rattle.call_dots.proofs.texts.write_picture.Goals as goal

pub write_edges-requires-clause-edges : goal.write_edges-requires-clause-edges
write_edges-requires-clause-edges g c =
    let program = c.args.shown.now.found.graph.now in
    subst (λ (edges : List CallEdge). All (IsEdgeIn program) edges) (sym (c.as_slice.ensures.value ∙ c.requires.shown.tables.edges))
    (edges_are_in program c.requires.shown.found.sound)

pub returns : goal.returns
returns g c =
    let program = c.args.shown.now.found.graph.now in
    let recursion = recursion_of c.args.shown.now in
    let first : List ℕ = head ++ all_nodes program (knowledge_of c.args.shown.now.found) recursion in
    let last : List ℕ = text_if c.args.shown.now.legend legend in
    takes_as _ _ _ _ (takes_then _ _ _ _ _ (takes_then _ _ _ _ _ (takes_then _ _ _ _ _ (takes_then _ _ _ _ _ c.write_head.ensures
    c.write_all_nodes.ensures) c.write_edges.ensures) c.write_legend.ensures) c.write.ensures)
    (ap (λ (edges : List CallEdge). first ++ flat_map (edge_line program recursion) edges ++ last ++ codes "}\n")
    (c.as_slice.ensures.value ∙ c.requires.shown.tables.edges))
