use Rattle.text_pieces.proofs.sinks.Taking.{takes_then}
use Rattle.json_texts.proofs.changes.write_named_program.Goals as goal

pub returns : goal.returns
returns g c =
    takes_then _ _ _ _ _ (takes_then _ _ _ _ _ (takes_then _ _ _ _ _ (takes_then _ _ _ _ _
    (takes_then _ _ _ _ _ (takes_then _ _ _ _ _ (takes_then _ _ _ _ _ (takes_then _ _ _ _ _ (takes_then _ _ _ _ _
    c.write_program_head.ensures c.write.ensures) c.write_names_field.ensures) c.write-2.ensures) c.write_names_field-2.ensures)
    c.write-3.ensures) c.write_definitions.ensures) c.write-4.ensures) c.write_expressions.ensures) c.write-5.ensures
