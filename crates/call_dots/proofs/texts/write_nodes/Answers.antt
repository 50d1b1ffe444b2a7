use Rattle.std.proofs.Common.{◌≡◌, ◌-◌, flat_map, ap, arith}
use Rattle.std.specs.List.{range_with_len}
use Rattle.text_pieces.proofs.sinks.Taking.{takes_as, takes_then}
use Rattle.flow_reports.specs.code.Findings.{knowledge_of}
use Rattle.flow_views.proofs.texts.Walks.{walk_more}
use Rattle.call_dots.specs.CallDots.{node}
use Rattle.call_dots.specs.code.Tables.{recursion_of}
use Rattle.call_dots.proofs.texts.write_nodes.Goals as goal

pub loop-procedure-preserved : goal.loop-procedure-preserved
loop-procedure-preserved g c = takes_as _ _ _ _ (takes_then _ _ _ _ _ c.loop-procedure.invariant c.write_node.ensures)
    (walk_more (node c.args.shown.now.found.graph.now (knowledge_of c.args.shown.now.found) (recursion_of c.args.shown.now))
    c.args.first c.loop-procedure.procedure c.loop-procedure.auto.procedure)

pub returns : goal.returns
returns g c =
    let all : c.loop-procedure.procedure ≡ c.args.end = omega (arith, c.requires.ordered) in
    takes_as _ _ _ _ c.loop-procedure.invariant
    (ap (λ n. flat_map (node c.args.shown.now.found.graph.now (knowledge_of c.args.shown.now.found) (recursion_of c.args.shown.now))
    (range_with_len c.args.first (n - c.args.first))) all)
