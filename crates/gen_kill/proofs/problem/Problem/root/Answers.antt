use Rattle.std.proofs.Common.{codes, ap, ◌∙◌}
use Rattle.tac_program.specs.Programs.{Program, number_of}
use Rattle.gen_kill.specs.Selections.{Selection}
use Rattle.gen_kill.proofs.bits.RootNumbers.{number_found}
use Rattle.gen_kill.proofs.problem.Problem.root.Goals as goal

pub returns-clause-number : goal.returns-clause-number
returns-clause-number c =
    let program = c.program-program.result.now in
    number_found program.procedure_names c.procs.ensures.sound.procedures_differ (codes "main") c.main.result c.main.ensures.main
    ∙ ap (λ (p : Program). number_of p.procedure_names (codes "main")) (c.program-program.ensures ∙ ap (λ (s : Selection). s.program) c.self.view_is)
