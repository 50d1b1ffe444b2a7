use Rattle.std.proofs.Common.{sym}
use Rattle.tac_program.specs.declared.program.StmtKind.TheVariants as stmt
use Rattle.tac_reader.proofs.build.comparison.Goals as goal

pub returns : goal.returns
returns c = λ i. stmt.IfCompare (sym (c.operator_at.ensures c.args.names.variables.text.now) i) (c.number_at.ensures i) (c.operand_at.ensures i)
    (c.operand_at-2.ensures i)
