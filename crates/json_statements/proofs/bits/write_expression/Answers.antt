use Rattle.std.proofs.Common.{ap, sym}
use Rattle.text_pieces.proofs.sinks.Taking.{takes_as}
use Rattle.json_statements.specs.Parts.{expression_object}
use Rattle.json_statements.proofs.bits.write_expression.Goals as goal

pub returns-in-Unary : goal.returns-in-Unary
returns-in-Unary g c = takes_as _ _ _ _ c.write_expression_of.ensures (sym (ap expression_object c.in-Unary.is))

pub returns-in-Binary : goal.returns-in-Binary
returns-in-Binary g c = takes_as _ _ _ _ c.write_expression_of-in-Binary.ensures (sym (ap expression_object c.in-Binary.is))
