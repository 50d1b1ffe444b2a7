use Rattle.text_pieces.proofs.sinks.Taking.{takes_then}
use Rattle.lint_commands.proofs.failures.CauseTextText.write.Goals as goal

pub returns : goal.returns
returns g c = takes_then _ _ _ _ _ (takes_then _ _ _ _ _ c.write.ensures c.write_cause.ensures) c.write-2.ensures
