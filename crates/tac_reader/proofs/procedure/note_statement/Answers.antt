use Rattle.std.proofs.Common.{◌≡◌, ◌∙◌, OnOk, ap, flat_map, fold, length, option_map, subst, sym}
use Rattle.tac_reader.specs.Parses.{names_in}
use Rattle.tac_program.specs.Names.{noted}
use Rattle.tac_reader.specs.Sections.{only_name, variables_of}
use Rattle.tac_lines.specs.code.Views.{form_slots, tokens_view}
use Rattle.tac_lines.specs.declared.form.Form.{Form}
use Rattle.tac_reader.proofs.forms.VariableForms.{variables_are}
use Rattle.tac_reader.proofs.procedure.note_statement.Goals as goal

pub returns-in-Some-clause-noted : goal.returns-in-Some-clause-noted
returns-in-Some-clause-noted c =
    let tokens = c.args.statement.tokens.now in
    let words = tokens_view c.args.text.now tokens in
    let names : flat_map only_name words ≡ variables_of words = variables_are c.in-Some.form (length tokens) words
    (c.form.ensures c.args.text.now ∙ ap (option_map (λ (form : Form). (form, form_slots form (length tokens)))) c.in-Some.is)
    (sym c.has_only_variables.ensures ∙ c.if-has_only_variables.true) in
    subst (λ ts. OnOk c.note_names.result (c.note_names.new.variables.table ≡ fold noted c.args.variables.now.table (names_in ts))) names c.note_names.ensures.noted
