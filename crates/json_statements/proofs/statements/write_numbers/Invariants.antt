use Rattle.std.proofs.Common.{◌++◌, codes, decimal, map, take}
use Rattle.text_pieces.specs.Pieces.{Writes}
use Rattle.flow_views.specs.Json.{joined}
use Rattle.json_statements.proofs.statements.write_numbers.Given as goal

abbrev pub invariant-loop-place : goal.invariant-loop-place
invariant-loop-place g l =
    Writes g.K.Sink l.fn.out l.out (codes "[" ++ joined (codes ",") (map decimal (take l.place l.numbers)))
