use Rattle.std.proofs.Common.{sym}
use Rattle.std.proofs.lemmas.Grind.{replicate_next}
use Rattle.text_pieces.proofs.sinks.Taking.{takes_as, takes_nothing, takes_then}
use Rattle.lint_styles.proofs.source.write_blanks.Goals as goal

pub loop-i-init : goal.loop-i-init
loop-i-init g c = takes_nothing _

pub loop-i-preserved : goal.loop-i-preserved
loop-i-preserved g c =
    takes_as _ _ _ _ (takes_then _ _ _ _ _ c.loop-i.invariant c.write.ensures) (sym (replicate_next c.loop-i._i 32))
