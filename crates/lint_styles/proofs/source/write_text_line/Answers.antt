use Rattle.std.proofs.Common.{◌++◌, codes, flat_map, ap}
use Rattle.lint_styles.specs.Styles.{margin, source_byte}
use Rattle.text_pieces.proofs.sinks.Taking.{takes_as, takes_then}
use Rattle.lint_styles.proofs.source.write_text_line.Goals as goal

pub returns : goal.returns
returns g c =
    takes_as _ _ _ _
    (takes_then _ _ _ _ _
    (takes_then _ _ _ _ _ (takes_then _ _ _ _ _ c.write_margin.ensures c.write.ensures) c.write_source_bytes.ensures)
    c.write-2.ensures)
    (ap (λ line. margin c.args.number ++ codes " | " ++ flat_map source_byte line ++ codes "\n") c.without_return.ensures)
