use Rattle.std.proofs.Common.{sym, ap}
use Rattle.lint_commands.specs.Failures.{graph_words}
use Rattle.text_pieces.proofs.sinks.Taking.{takes_as}
use Rattle.lint_commands.proofs.failures.write_cause.Goals as goal

pub returns-in-TooManyPoints : goal.returns-in-TooManyPoints
returns-in-TooManyPoints g c = takes_as _ _ _ _ c.write_points.ensures (ap (graph_words c.args.limits) (sym c.in-TooManyPoints.is))

pub returns-in-TooManyBits : goal.returns-in-TooManyBits
returns-in-TooManyBits g c = takes_as _ _ _ _ c.write_bits.ensures (ap (graph_words c.args.limits) (sym c.in-TooManyBits.is))

pub returns-in-OutOfMemory : goal.returns-in-OutOfMemory
returns-in-OutOfMemory g c = takes_as _ _ _ _ c.write.ensures (ap (graph_words c.args.limits) (sym c.in-OutOfMemory.is))
