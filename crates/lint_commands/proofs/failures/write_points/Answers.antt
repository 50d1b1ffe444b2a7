use Rattle.std.proofs.Common.{◌++◌, codes, decimal, ap}
use Rattle.lint_commands.specs.Failures.{larger_words}
use Rattle.text_pieces.proofs.sinks.Taking.{takes_as, takes_then}
use Rattle.lint_commands.proofs.failures.write_points.Goals as goal

pub returns : goal.returns
returns g c =
    takes_as _ _ _ _ (takes_then _ _ _ _ _ (takes_then _ _ _ _ _ (takes_then _ _ _ _ _ c.write.ensures c.write_size.ensures) c.write-2.ensures) c.write_larger.ensures)
    (ap (λ n. codes "the program has more than " ++ decimal n ++ codes " points: each statement has one, and each `end` (refusal 21)"
    ++ larger_words c.args.limits) c.points.ensures)
