use Rattle.std.proofs.Common.{◌++◌, codes, map, take}
use Rattle.text_pieces.specs.Pieces.{Writes}
use Rattle.flow_views.specs.Json.{joined}
use Rattle.text_pieces.specs.Strings.{quoted}
use Rattle.json_texts.proofs.outlines.write_variables.Given as goal

abbrev pub invariant-loop-variable : goal.invariant-loop-variable
invariant-loop-variable g l =
    Writes g.K.Sink l.fn.out l.out
    (codes "[" ++ joined (codes ",") (map quoted (take l.variable l.fn.graph.variable_names)))
