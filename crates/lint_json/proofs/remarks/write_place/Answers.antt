use Rattle.std.proofs.Common.{◌++◌, codes, decimal, ap}
use Rattle.text_pieces.proofs.sinks.Taking.{takes_as, takes_then}
use Rattle.lint_json.proofs.remarks.write_place.Goals as goal

pub returns : goal.returns
returns g c =
    takes_as _ _ _ _ (takes_then _ _ _ _ _ (takes_then _ _ _ _ _ (takes_then _ _ _ _ _ c.write.ensures c.write_size.ensures) c.write-2.ensures) c.write_size-2.ensures)
    (ap (λ column. codes ",\"line\":" ++ decimal c.args.start.line ++ codes ",\"column\":" ++ decimal column) c.column.ensures)
