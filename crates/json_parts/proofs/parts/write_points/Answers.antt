use Rattle.std.proofs.Common.{◌≡◌, flat_map, sym, ap, arith}
use Rattle.std.specs.List.{range_with_len}
use Rattle.flow_graph.proofs.lists.Ranges.{flat_map-range_more}
use Rattle.flow_graph.specs.Points.{point_count}
use Rattle.flow_reports.specs.code.Findings.{knowledge_of}
use Rattle.flow_views.specs.Json.{point_line}
use Rattle.json_parts.specs.JsonParts.{no_facts}
use Rattle.text_pieces.proofs.sinks.Taking.{takes_as, takes_then}
use Rattle.json_parts.proofs.parts.write_points.Goals as goal

pub loop-point-preserved : goal.loop-point-preserved
loop-point-preserved g c =
    takes_as _ _ _ _ (takes_then _ _ _ _ _ c.loop-point.invariant c.write_point.ensures)
    (sym (flat_map-range_more (point_line c.args.found.now.graph.now (knowledge_of c.args.found.now) no_facts) c.loop-point.point))

pub returns : goal.returns
returns g c =
    let all : c.loop-point.point ≡ point_count c.args.found.now.graph.now =
    omega (arith, c.loop-point-test.false, c.loop-point.auto.point-end, c.points-point-end.ensures.count) in
    takes_as _ _ _ _ c.loop-point.invariant
    (ap (λ n. flat_map (point_line c.args.found.now.graph.now (knowledge_of c.args.found.now) no_facts) (range_with_len 0 n)) all)
