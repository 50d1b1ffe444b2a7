use Rattle.std.proofs.Common.{List, ℕ, ◌++◌, codes, ap}
use Rattle.text_pieces.proofs.sinks.Taking.{takes_as, takes_then}
use Rattle.json_statements.specs.Parts.{operands_field}
use Rattle.json_statements.proofs.bits.write_expression_of.Goals as goal

pub returns : goal.returns
returns g c =
    takes_as _ _ _ _
    (takes_then _ _ _ _ _ (takes_then _ _ _ _ _ (takes_then _ _ _ _ _ (takes_then _ _ _ _ _ c.write.ensures c.write-2.ensures)
    c.write-3.ensures) c.write_operands.ensures) c.write-4.ensures)
    (ap (λ (sign : List ℕ). codes "{\"operator\":\"" ++ sign ++ codes "\"" ++ operands_field c.args.operands.now ++ codes "}") c.sign.ensures)
