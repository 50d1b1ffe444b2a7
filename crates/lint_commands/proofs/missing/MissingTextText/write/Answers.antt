use Rattle.text_pieces.proofs.sinks.Taking.{takes_then}
use Rattle.lint_commands.proofs.missing.MissingTextText.write.Goals as goal

pub returns : goal.returns
returns g c =
    takes_then _ _ _ _ _
    (takes_then _ _ _ _ _ (takes_then _ _ _ _ _ c.write_shown.ensures c.write.ensures) c.write_shown-2.ensures)
    c.write-2.ensures
