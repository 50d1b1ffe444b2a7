use Rattle.std.proofs.Common.{◌++◌, codes, map, take}
use Rattle.text_pieces.specs.Pieces.{Writes}
use Rattle.flow_views.specs.Json.{joined}
use Rattle.json_statements.specs.Parts.{operand_object}
use Rattle.json_statements.proofs.operands.write_array.Given as goal

abbrev pub invariant-loop-place : goal.invariant-loop-place
invariant-loop-place g l =
    Writes g.K.Sink l.fn.out l.out (codes "[" ++ joined (codes ",") (map operand_object (take l.place l.operands)))
