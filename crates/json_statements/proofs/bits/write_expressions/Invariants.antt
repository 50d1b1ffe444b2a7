use Rattle.std.proofs.Common.{◌++◌, codes, map, take}
use Rattle.text_pieces.specs.Pieces.{Writes}
use Rattle.flow_views.specs.Json.{joined}
use Rattle.flow_graph.specs.Universes.{expressions}
use Rattle.json_statements.specs.Parts.{expression_object}
use Rattle.json_statements.proofs.bits.write_expressions.Given as goal

abbrev pub invariant-loop-bit : goal.invariant-loop-bit
invariant-loop-bit g l =
    Writes g.K.Sink l.fn.out l.out (codes "[" ++ joined (codes ",") (map expression_object (take l.bit (expressions l.fn.graph))))
