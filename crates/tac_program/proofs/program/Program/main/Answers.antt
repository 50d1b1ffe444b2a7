use Rattle.std.proofs.Common.{codes}
use Rattle.tac_program.proofs.known_names.FoundNames.{contained_found, found_named}
use Rattle.tac_program.proofs.program.Program.main.Goals as goal

pub unwrap-requires : goal.unwrap-requires
unwrap-requires c = contained_found c.self.inside.procedures (codes "main") c.find.result c.find.ensures.number c.self.invariant.main

pub returns-clause-main : goal.returns-clause-main
returns-clause-main c =
    rw (← c.self.view_is) (found_named c.self.inside.procedures (codes "main") c.find.result c.find.ensures.number c.unwrap.result c.unwrap.ensures)
