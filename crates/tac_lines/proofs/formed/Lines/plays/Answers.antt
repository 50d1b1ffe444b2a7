use Rattle.std.proofs.Common.{◌∙◌, sym}
use Rattle.tac_lines.proofs.forms.FormedLines.{no_cells, no_cells_of}
use Rattle.tac_lines.proofs.formed.Lines.plays.Goals as goal

pub returns-in-None : goal.returns-in-None
returns-in-None c text r played =
    let lines = c.args.self.now in
    no_cells c.args.role text lines.tokens.now lines.ranges.now c.args.at r _ c.requires lines.formed c.in-None.is

pub returns-in-Some : goal.returns-in-Some
returns-in-Some c text r played =
    let lines = c.args.self.now in
    no_cells_of c.args.role text lines.tokens.now lines.ranges.now c.args.at r _ c.requires lines.formed c.in-Some.form c.in-Some.is
    (sym c.has_role.ensures ∙ played)
