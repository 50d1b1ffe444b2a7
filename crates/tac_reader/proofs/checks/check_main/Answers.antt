use Rattle.std.proofs.Common.{◌∙◌, ap, [], is_some, codes, if◌then◌else◌}
use Rattle.tac_reader.specs.Faults.{head_of}
use Rattle.tac_lines.specs.LineFaults.{at}
use Rattle.tac_lines.specs.declared.refusal.RefusalKind.TheVariants.{NoMain}
use Rattle.tac_program.proofs.known_names.NameTexts.{numbered}
use Rattle.tac_reader.proofs.checks.check_main.Goals as goal

pub returns-in-Some : goal.returns-in-Some
returns-in-Some c =
    ap (λ b. head_of (if b then [] else at NoMain 0)) (ap is_some c.in-Some.ensures.number ∙ numbered (codes "main") c.args.procedures.now)

pub returns-in-None : goal.returns-in-None
returns-in-None c =
    ap (λ b. head_of (if b then [] else at NoMain 0)) (ap is_some c.in-None.ensures.number ∙ numbered (codes "main") c.args.procedures.now)
