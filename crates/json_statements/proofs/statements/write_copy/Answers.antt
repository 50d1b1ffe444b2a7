use Rattle.text_pieces.proofs.sinks.Taking.{takes_then}
use Rattle.json_statements.proofs.statements.write_copy.Goals as goal

pub returns : goal.returns
returns g c =
    takes_then _ _ _ _ _ (takes_then _ _ _ _ _ (takes_then _ _ _ _ _ c.write_kind.ensures c.write_target.ensures) c.write_operands.ensures) c.write.ensures
