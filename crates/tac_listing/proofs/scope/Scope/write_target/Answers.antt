use Rattle.std.proofs.Common.{codes}
use Rattle.tac_program.specs.Names.{name_at}
use Rattle.text_pieces.proofs.sinks.Escapes.{shows_then}
use Rattle.tac_listing.proofs.scope.Scope.write_target.Goals as goal

pub returns : goal.returns
returns g c =
    shows_then (name_at c.args.self.now.program.now.variable_names c.args.target) (codes " = ")
    _ _ _ c.write_variable.ensures c.write.ensures
