use Rattle.std.proofs.Common.{[], ◌∷◌, ◌++◌, ◌∙◌, codes, ap, sym}
use Rattle.text_pieces.proofs.sinks.Taking.{takes_as, takes_then}
use Rattle.source_lines.proofs.lines.Signs.{text_by}
use Rattle.source_lines.proofs.source.write_byte.Goals as goal

pub returns-else-is_sign : goal.returns-else-is_sign
returns-else-is_sign g c =
    takes_as _ _ _ _ (takes_then _ _ _ _ _ c.write.ensures c.write-else-is_sign.ensures)
    ((λ i. codes "\\u00" ++ c.hex_digit.ensures i ∷ c.hex_digit-else-is_sign.ensures i ∷ [])
    ∙ ap (text_by c.args.byte) (sym (sym c.is_sign.ensures ∙ c.if-is_sign.false)))
