use Rattle.std.proofs.Common.{List, ℕ, ◌++◌, codes}
use Rattle.tac_listing.specs.Listings.{goto_text, operand_text, names_in}
use Rattle.tac_program.specs.Names.{Names}
use Rattle.text_pieces.proofs.sinks.Escapes.{shows_then}
use Rattle.tac_listing.proofs.scope.Scope.write_if.Goals as goal

pub returns : goal.returns
returns g c =
    let names : Names = names_in c.args.self.now.program.now c.args.self.now.procedure in
    let condition : List ℕ = operand_text names c.args.condition in
    shows_then (codes "if " ++ condition ++ codes " ") (goto_text names c.args.label) _ _ _
    (shows_then (codes "if " ++ condition) (codes " ")
    _ _ _ (shows_then (codes "if ") condition _ _ _ c.write.ensures c.write_operand.ensures) c.write-2.ensures)
    c.write_goto.ensures
