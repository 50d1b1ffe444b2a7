use Rattle.std.proofs.Common.{List, ℕ, ◌++◌, codes, ap}
use Rattle.text_pieces.proofs.sinks.Taking.{takes_as}
use Rattle.tac_listing.specs.Listings.{operand_text, names_in}
use Rattle.tac_program.specs.Spelling.{sign_of}
use Rattle.tac_program.specs.Names.{Names}
use Rattle.text_pieces.specs.Strings.{escaped}
use Rattle.text_pieces.proofs.sinks.Escapes.{shows_then}
use Rattle.tac_listing.proofs.scope.Scope.write_binary.Goals as goal

pub returns : goal.returns
returns g c =
    let names : Names = names_in c.args.self.now.program.now c.args.self.now.procedure in
    let left : List ℕ = operand_text names c.args.left in
    let sign : List ℕ = sign_of c.args.op in
    shows_then (left ++ codes " " ++ sign ++ codes " ") (operand_text names c.args.right) _ _ _
    (shows_then (left ++ codes " " ++ sign) (codes " ") _ _ _
    (shows_then (left ++ codes " ") sign _ _ _ (shows_then left (codes " ") _ _ _ c.write_operand.ensures c.write.ensures)
    (takes_as _ _ _ _ c.write_escaped.ensures (ap escaped c.sign.ensures)))
    c.write-2.ensures)
    c.write_operand-2.ensures
