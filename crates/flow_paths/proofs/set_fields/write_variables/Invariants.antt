use Rattle.std.proofs.Common.{◌++◌, codes, map, take}
use Rattle.flow_texts.specs.Tables.{variable_text}
use Rattle.text_pieces.specs.Pieces.{Writes}
use Rattle.text_pieces.specs.Strings.{quoted}
use Rattle.flow_views.specs.Json.{joined}
use Rattle.flow_paths.proofs.set_fields.write_variables.Given as goal

abbrev pub invariant-loop-place : goal.invariant-loop-place
invariant-loop-place g l =
    Writes g.K.Sink l.fn.out l.out
    (codes "[" ++ joined (codes ",") (map (λ v. quoted (variable_text l.fn.program v)) (take l.place l.list)))
