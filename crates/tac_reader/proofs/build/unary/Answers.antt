use Rattle.std.proofs.Common.{sym}
use Rattle.tac_program.specs.declared.program.StmtKind.TheVariants as stmt
use Rattle.tac_reader.proofs.build.unary.Goals as goal

pub returns : goal.returns
returns c = λ i. stmt.Unary (c.variable_at.ensures i) (sym (c.operator_at.ensures c.args.names.variables.text.now) i) (c.operand_at.ensures i)
