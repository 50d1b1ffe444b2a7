use Rattle.std.proofs.Common.{◌++◌, codes}
use Rattle.tac_program.specs.Names.{name_at}
use Rattle.tac_listing.specs.Listings.{binary_text, names_in}
use Rattle.tac_program.specs.Names.{Names}
use Rattle.text_pieces.proofs.sinks.Escapes.{shows_then}
use Rattle.tac_listing.proofs.scope.Scope.write_binary_assignment.Goals as goal

pub returns : goal.returns
returns g c =
    let names : Names = names_in c.args.self.now.program.now c.args.self.now.procedure in
    shows_then (name_at names.variables c.args.target ++ codes " = ") (binary_text names c.args.left c.args.op c.args.right)
    _ _ _ c.write_target.ensures c.write_binary.ensures
