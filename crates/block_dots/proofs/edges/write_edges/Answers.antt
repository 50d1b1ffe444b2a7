use Rattle.std.proofs.Common.{◌-◌, ℕ, flat_map, ap, ◌∙◌, arith}
use Rattle.text_pieces.proofs.sinks.Taking.{takes_as, takes_then}
use Rattle.tac_program.specs.Programs.{Program}
use Rattle.flow_graph.specs.Edges.{edges_from}
use Rattle.flow_views.proofs.facts.Tables.{all_ends_in}
use Rattle.block_dots.specs.BlockDots.{shown_edge}
use Rattle.block_dots.proofs.edges.write_edges.Goals as goal

pub write_shown_edges-requires-clause-edges : goal.write_shown_edges-requires-clause-edges
write_shown_edges-requires-clause-edges g c =
    all_ends_in c.args.shown.now.found.graph.now (c.args.block.end - 1) c.edges.result.now c.requires.shown.found.sound
    (omega (arith, c.requires.block.above, c.requires.block.below)) c.edges.ensures

pub returns : goal.returns
returns g c =
    let program : Program = c.args.shown.now.found.graph.now in
    takes_then _ _ _ _ _ (takes_as _ _ _ _ c.write_shown_edges.ensures
    (ap (flat_map (shown_edge program c.args.shown.now.view c.args.block.leader))
    (c.edges.ensures ∙ ap (λ (end : ℕ). edges_from program (end - 1)) c.requires.block.ends)))
    c.write_passed_call.ensures
