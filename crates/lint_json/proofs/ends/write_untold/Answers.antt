use Rattle.text_pieces.proofs.sinks.Taking.{takes_then}
use Rattle.lint_json.proofs.ends.write_untold.Goals as goal

pub returns : goal.returns
returns g c =
    takes_then _ _ _ _ _ (takes_then _ _ _ _ _ (takes_then _ _ _ _ _ (takes_then _ _ _ _ _ (takes_then _ _ _ _ _ c.write_begin.ensures c.write.ensures) c.write_size.ensures) c.write-2.ensures) c.write_from.ensures) c.write-3.ensures
