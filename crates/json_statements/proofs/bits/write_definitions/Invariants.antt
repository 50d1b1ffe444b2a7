use Rattle.std.proofs.Common.{◌++◌, codes, map, take}
use Rattle.text_pieces.specs.Pieces.{Writes}
use Rattle.flow_views.specs.Json.{joined}
use Rattle.flow_graph.specs.Universes.{definitions}
use Rattle.json_statements.specs.Parts.{definition_object}
use Rattle.json_statements.proofs.bits.write_definitions.Given as goal

abbrev pub invariant-loop-bit : goal.invariant-loop-bit
invariant-loop-bit g l =
    Writes g.K.Sink l.fn.out l.out (codes "[" ++ joined (codes ",") (map definition_object (take l.bit (definitions l.fn.graph))))
