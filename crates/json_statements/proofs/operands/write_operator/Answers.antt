use Rattle.std.proofs.Common.{List, ℕ, ◌++◌, codes, ap}
use Rattle.text_pieces.proofs.sinks.Taking.{takes_as, takes_then}
use Rattle.json_statements.proofs.operands.write_operator.Goals as goal

pub returns : goal.returns
returns g c =
    takes_as _ _ _ _ (takes_then _ _ _ _ _ (takes_then _ _ _ _ _ c.write.ensures c.write-2.ensures) c.write-3.ensures)
    (ap (λ (sign : List ℕ). codes ",\"operator\":\"" ++ sign ++ codes "\"") c.sign.ensures)
