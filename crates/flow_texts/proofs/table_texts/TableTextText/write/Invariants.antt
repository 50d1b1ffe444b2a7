use Rattle.flow_team.specs.Tables.{facts_of}
use Rattle.std.proofs.Common.{flat_map}
use Rattle.std.specs.List.{range_with_len}
use Rattle.text_pieces.specs.Pieces.{Writes}
use Rattle.flow_texts.specs.Tables.{point_line}
use Rattle.flow_texts.proofs.table_texts.TableTextText.write.Given as goal

abbrev pub invariant-loop-point : goal.invariant-loop-point
invariant-loop-point g l =
    Writes g.K.Sink l.fn.out l.out
    (flat_map (point_line l.self-inside.graph.now l.self-inside.table.now.analysis (facts_of l.self-inside.table.now)) (range_with_len 0 l.point))
