use Rattle.std.proofs.Common.{◌<◌, arith, []}
use Rattle.tac_program.specs.Programs.{Procedure}
use Rattle.tac_program.specs.declared.program.Stmt.{Stmt}
use Rattle.tac_program.specs.declared.program.StmtKind.TheVariants.{Skip}
use Rattle.checked_examples.proofs.reader_examples.sound_programs.Goals as goal

-- The comparison of the second procedure names the third variable.
pub returns-clause-variable_missing : goal.returns-clause-variable_missing
returns-clause-variable_missing c = λ h.
    let p : Procedure = record { name = 0; labels = []; label_names = []; statements = [] } in
    let s : Stmt = record { kind = Skip; span = record { line = 0; start = 0; end = 0 } } in
    let below : 2 < 2 = ((h.procedures 1 p (omega arith)).statements 2 s (omega arith)).right in
    omega arith
