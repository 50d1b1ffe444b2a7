use Rattle.std.proofs.Common.{◌++◌, codes, map, take}
use Rattle.text_pieces.specs.Pieces.{Writes}
use Rattle.text_pieces.specs.Strings.{quoted}
use Rattle.flow_views.specs.Json.{joined}
use Rattle.flow_views.specs.Views.{label_name}
use Rattle.json_texts.proofs.outlines.write_labels.Given as goal

abbrev pub invariant-loop-place : goal.invariant-loop-place
invariant-loop-place g l =
    Writes g.K.Sink l.fn.out l.out
    (codes "[" ++ joined (codes ",") (map (λ label. quoted (label_name l.fn.graph l.fn.point label)) (take l.place l.labels)))
