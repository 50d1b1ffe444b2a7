use Rattle.std.proofs.Common.{◌++◌, codes, map, take}
use Rattle.text_pieces.specs.Pieces.{Writes}
use Rattle.flow_views.specs.Json.{joined}
use Rattle.text_pieces.specs.Strings.{quoted}
use Rattle.json_texts.proofs.outlines.write_procedures.Given as goal

abbrev pub invariant-loop-procedure : goal.invariant-loop-procedure
invariant-loop-procedure g l =
    Writes g.K.Sink l.fn.out l.out
    (codes "[" ++ joined (codes ",") (map quoted (take l.procedure l.fn.graph.procedure_names)))
