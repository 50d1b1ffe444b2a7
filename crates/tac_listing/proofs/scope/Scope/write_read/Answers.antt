use Rattle.std.proofs.Common.{codes}
use Rattle.tac_program.specs.Names.{name_at}
use Rattle.tac_program.specs.Names.{Names}
use Rattle.tac_listing.specs.Listings.{names_in}
use Rattle.text_pieces.proofs.sinks.Escapes.{shows_then}
use Rattle.tac_listing.proofs.scope.Scope.write_read.Goals as goal

pub returns : goal.returns
returns g c =
    let names : Names = names_in c.args.self.now.program.now c.args.self.now.procedure in
    shows_then (codes "read ") (name_at names.variables c.args.target) _ _ _ c.write.ensures c.write_variable.ensures
