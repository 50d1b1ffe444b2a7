use Rattle.text_pieces.proofs.sinks.Taking.{takes_then}
use Rattle.lint_json.proofs.ends.write_end.Goals as goal

pub returns : goal.returns
returns g c =
    takes_then _ _ _ _ _ (takes_then _ _ _ _ _ (takes_then _ _ _ _ _ c.write_begin.ensures c.write.ensures) c.write_size.ensures) c.write-2.ensures
