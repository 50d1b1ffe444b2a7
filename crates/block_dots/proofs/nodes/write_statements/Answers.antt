use Rattle.std.proofs.Common.{◌≡◌, ◌-◌, flat_map, ap, arith}
use Rattle.std.specs.List.{range_with_len}
use Rattle.text_pieces.proofs.sinks.Taking.{takes_as, takes_then}
use Rattle.flow_views.specs.code.ViewProgram.{known_of}
use Rattle.flow_views.proofs.texts.Walks.{walk_more}
use Rattle.block_dots.specs.BlockDots.{statement_lines}
use Rattle.block_dots.proofs.nodes.write_statements.Goals as goal

pub loop-point-preserved : goal.loop-point-preserved
loop-point-preserved g c = takes_as _ _ _ _ (takes_then _ _ _ _ _ c.loop-point.invariant c.write_statement_lines.ensures)
    (walk_more (statement_lines c.args.shown.now.found.graph.now (known_of c.args.shown.now)) c.args.block.leader c.loop-point.point
    c.loop-point.auto.point)

pub returns : goal.returns
returns g c =
    let all : c.loop-point.point ≡ c.args.block.end = omega (arith, c.requires.block.above) in
    takes_as _ _ _ _ c.loop-point.invariant
    (ap (λ n. flat_map (statement_lines c.args.shown.now.found.graph.now (known_of c.args.shown.now))
    (range_with_len c.args.block.leader (n - c.args.block.leader))) all)
