use Rattle.std.proofs.Common.{sym}
use Rattle.tac_program.specs.declared.program.StmtKind.TheVariants as stmt
use Rattle.tac_reader.proofs.build.binary.Goals as goal

pub returns : goal.returns
returns c = λ i. stmt.Binary (sym (c.operator_at.ensures c.args.names.variables.text.now) i) (c.variable_at.ensures i) (c.operand_at.ensures i)
    (c.operand_at-2.ensures i)
