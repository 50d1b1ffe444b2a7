use Rattle.std.proofs.Common.{◌-◌, ◌*◌, length}
use Rattle.tac_lines.specs.Forms.{behind_labels}
use Rattle.tac_lines.specs.code.Views.{tokens_view}
use Rattle.tac_lines.proofs.forms.FormedLines.{some_row}
use Rattle.tac_lines.proofs.formed.Line.is_statement.Goals as goal

pub returns : goal.returns
returns c text =
    let line = c.args.self.now in
    some_row line.form (length line.tokens.now - 2 * line.labels) (behind_labels (tokens_view text line.tokens.now)) c.is_some.result
    (line.formed text) c.is_some.ensures
