use Rattle.tac_program.specs.declared.program.StmtKind.TheVariants as stmt
use Rattle.tac_reader.proofs.build.copy.Goals as goal

pub returns : goal.returns
returns c = λ i. stmt.Copy (c.variable_at.ensures i) (c.operand_at.ensures i)
