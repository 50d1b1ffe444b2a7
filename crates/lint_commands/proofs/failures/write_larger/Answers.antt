use Rattle.std.proofs.Common.{sym, ap}
use Rattle.lint_commands.specs.Failures.{larger_words}
use Rattle.text_pieces.proofs.sinks.Taking.{takes_as}
use Rattle.lint_commands.proofs.failures.write_larger.Goals as goal

pub returns-in-Standard : goal.returns-in-Standard
returns-in-Standard g c = takes_as _ _ _ _ c.write.ensures (ap larger_words (sym c.in-Standard.is))
