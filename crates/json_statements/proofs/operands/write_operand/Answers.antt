use Rattle.std.proofs.Common.{ap, sym}
use Rattle.text_pieces.proofs.sinks.Taking.{takes_as}
use Rattle.json_statements.specs.Parts.{operand_object}
use Rattle.json_statements.proofs.operands.write_operand.Goals as goal

pub returns-in-Variable : goal.returns-in-Variable
returns-in-Variable g c = takes_as _ _ _ _ c.write_one.ensures (sym (ap operand_object c.in-Variable.is))

pub returns-in-Number : goal.returns-in-Number
returns-in-Number g c = takes_as _ _ _ _ c.write_one-in-Number.ensures (sym (ap operand_object c.in-Number.is))
