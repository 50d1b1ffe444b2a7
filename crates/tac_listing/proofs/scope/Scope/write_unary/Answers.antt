use Rattle.std.proofs.Common.{ap}
use Rattle.text_pieces.proofs.sinks.Taking.{takes_as}
use Rattle.tac_listing.specs.Listings.{operand_text, names_in}
use Rattle.tac_program.specs.Spelling.{sign_of}
use Rattle.tac_program.specs.Names.{Names}
use Rattle.text_pieces.specs.Strings.{escaped}
use Rattle.text_pieces.proofs.sinks.Escapes.{shows_then}
use Rattle.tac_listing.proofs.scope.Scope.write_unary.Goals as goal

pub returns : goal.returns
returns g c =
    let names : Names = names_in c.args.self.now.program.now c.args.self.now.procedure in
    shows_then (sign_of c.args.op) (operand_text names c.args.operand)
    _ _ _ (takes_as _ _ _ _ c.write_escaped.ensures (ap escaped c.sign.ensures)) c.write_operand.ensures
