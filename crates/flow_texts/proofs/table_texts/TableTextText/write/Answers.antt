-- A point more is a line more.
use Rattle.flow_team.specs.Tables.{facts_of}
use Rattle.std.proofs.Common.{sym}
use Rattle.flow_graph.proofs.lists.Ranges.{flat_map-range_more}
use Rattle.flow_texts.specs.Tables.{point_line}
use Rattle.text_pieces.proofs.sinks.Taking.{takes_as, takes_then}
use Rattle.flow_texts.proofs.table_texts.TableTextText.write.Goals as goal

pub loop-point-preserved : goal.loop-point-preserved
loop-point-preserved g c =
    let text = c.self.inside in
    let line = point_line text.graph.now text.table.now.analysis (facts_of text.table.now) in
    takes_as _ _ _ _ (takes_then _ _ _ _ _ c.loop-point.invariant c.write_point.ensures)
    (sym (flat_map-range_more line c.loop-point.point))
