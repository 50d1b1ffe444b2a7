use Rattle.std.proofs.Common.{◌≡◌, flat_map, sym, ap, ◌∙◌, arith}
use Rattle.std.specs.List.{range_with_len}
use Rattle.flow_graph.proofs.lists.Ranges.{flat_map-range_more}
use Rattle.flow_graph.specs.Points.{point_count}
use Rattle.flow_parts.proofs.WrittenLines.{texts_are, texts_in}
use Rattle.flow_reports.specs.Reports.{Knowledge}
use Rattle.flow_reports.specs.code.Findings.{knowledge_of}
use Rattle.flow_views.specs.Json.{remark_object}
use Rattle.tac_program.specs.Programs.{Program}
use Rattle.text_pieces.proofs.sinks.Taking.{takes_as, takes_then}
use Rattle.json_parts.proofs.parts.write_remarks.Goals as goal

pub loop-point-preserved : goal.loop-point-preserved
loop-point-preserved g c =
    let program : Program = c.args.found.now.graph.now in
    takes_as _ _ _ _ (takes_then _ _ _ _ _ c.loop-point.invariant c.write_chosen_remarks.ensures)
    (sym (flat_map-range_more
    (texts_in (remark_object program) program (knowledge_of c.args.found.now) c.args.share.count c.args.share.part) c.loop-point.point))

pub returns : goal.returns
returns g c =
    let program : Program = c.args.found.now.graph.now in
    let known : Knowledge = knowledge_of c.args.found.now in
    let all : c.loop-point.point ≡ point_count program =
    omega (arith, c.loop-point-test.false, c.loop-point.auto.point-end, c.points-point-end.ensures.count) in
    takes_as _ _ _ _ c.loop-point.invariant
    (ap (λ n. flat_map (texts_in (remark_object program) program known c.args.share.count c.args.share.part) (range_with_len 0 n)) all
    ∙ texts_are (remark_object program) program known c.args.share.count c.args.share.part)
