use Rattle.std.proofs.Common.{◌-◌, flat_map}
use Rattle.std.specs.List.{range_with_len}
use Rattle.text_pieces.specs.Pieces.{Writes}
use Rattle.flow_reports.specs.code.Findings.{knowledge_of}
use Rattle.call_dots.specs.CallDots.{node}
use Rattle.call_dots.specs.code.Tables.{recursion_of}
use Rattle.call_dots.proofs.texts.write_nodes.Given as goal

abbrev pub invariant-loop-procedure : goal.invariant-loop-procedure
invariant-loop-procedure g l =
    Writes g.K.Sink l.fn.out l.out
    (flat_map (node l.fn.shown.found.graph.now (knowledge_of l.fn.shown.found) (recursion_of l.fn.shown))
    (range_with_len l.fn.first (l.procedure - l.fn.first)))
