use Rattle.std.proofs.Common.{codes}
use Rattle.tac_listing.specs.Listings.{callees_text, names_in}
use Rattle.tac_program.specs.Names.{Names}
use Rattle.text_pieces.proofs.sinks.Escapes.{shows_then}
use Rattle.tac_listing.proofs.scope.Scope.write_call.Goals as goal

pub returns : goal.returns
returns g c =
    let names : Names = names_in c.args.self.now.program.now c.args.self.now.procedure in
    shows_then (codes "call ") (callees_text names c.args.callees.now) _ _ _ c.write.ensures c.write_callees.ensures
