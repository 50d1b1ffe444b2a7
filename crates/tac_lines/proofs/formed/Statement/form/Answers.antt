use Rattle.std.proofs.Common.{length}
use Rattle.tac_lines.specs.code.Views.{tokens_view}
use Rattle.tac_lines.proofs.forms.FormedLines.{row_of_form}
use Rattle.tac_lines.proofs.formed.Statement.form.Goals as goal

pub returns : goal.returns
returns c text =
    let statement = c.args.self.now in
    row_of_form statement.form (length statement.tokens.now) (tokens_view text statement.tokens.now) (statement.formed text)
