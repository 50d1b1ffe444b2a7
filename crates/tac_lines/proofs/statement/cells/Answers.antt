use Rattle.std.proofs.Common.{◌∙◌, sym, ap, length, option_map}
use Rattle.tac_lines.specs.code.Views.{form_slots, tokens_view}
use Rattle.tac_lines.specs.declared.form.Form.{Form}
use Rattle.tac_lines.proofs.forms.FormedLines.{cells_without}
use Rattle.tac_lines.proofs.statement.cells.Goals as goal

pub returns-else-has_role-clause-appended : goal.returns-else-has_role-clause-appended
returns-else-has_role-clause-appended c text =
    let tokens = c.args.statement.tokens.now in
    cells_without c.args.role c.in-Some.form (length tokens) (tokens_view text tokens) (tokens_view text c.args.found.now.items)
    (c.form.ensures text ∙ ap (option_map (λ (form : Form). (form, form_slots form (length tokens)))) c.in-Some.is)
    (sym c.has_role.ensures ∙ c.if-has_role.false)
