use Rattle.std.proofs.Common.{◌∙◌, ℕ, List, sym, ap, length, map}
use Rattle.tac_reader.specs.code.Built.{call_numbers, names_view}
use Rattle.tac_reader.specs.Parses.{kind_of}
use Rattle.tac_lines.specs.code.Views.{tokens_view}
use Rattle.tac_reader.specs.declared.build.Names.{Names as Tables}
use Rattle.tac_lines.specs.declared.form.Form.TheVariants as form
use Rattle.tac_program.specs.declared.program.StmtKind.TheVariants as stmt
use Rattle.tac_lines.specs.declared.token.Token.{Token as Lexed}
use Rattle.tac_reader.proofs.programs.StatementWords.{row_of, row_form, unary_words, binary_words, comparison_words, copy_words, jump_words}
use Rattle.tac_reader.proofs.programs.StatementWords.{test_words, negated_words, read_words, print_words}
use Rattle.tac_lines.proofs.forms.RowLengths.{row_length}
use Rattle.tac_reader.proofs.build.kind.Goals as goal

abbrev called : Tables → List ℕ → List Lexed → List ℕ
called names text tokens = call_numbers names.procedures.now (tokens_view text tokens)

pub returns-in-Some-Unary : goal.returns-in-Some-Unary
returns-in-Some-Unary c =
    let text = c.args.names.variables.text.now in
    let ts = tokens_view text c.args.statement.tokens.now in
    let names = names_view c.args.names in
    let row = row_of ts (length c.args.statement.tokens.now) c.form.result c.in-Some-Unary.field-0 form.Unary (c.form.ensures text)
    c.in-Some-Unary.is c.in-Some-Unary.field-0-is in
    c.unary.ensures
    ∙ unary_words names (called c.args.names c.args.names.variables.text.now c.args.statement.tokens.now) ts (row_length ts _ row)
    ∙ ap (λ f. kind_of names (called c.args.names c.args.names.variables.text.now c.args.statement.tokens.now) f (map (λ t. t.word) ts))
    (sym (row_form ts _ row))

pub returns-in-Some-Binary : goal.returns-in-Some-Binary
returns-in-Some-Binary c =
    let text = c.args.names.variables.text.now in
    let ts = tokens_view text c.args.statement.tokens.now in
    let names = names_view c.args.names in
    let row = row_of ts (length c.args.statement.tokens.now) c.form.result c.in-Some-Binary.field-0 form.Binary (c.form.ensures text)
    c.in-Some-Binary.is c.in-Some-Binary.field-0-is in
    c.binary.ensures
    ∙ binary_words names (called c.args.names c.args.names.variables.text.now c.args.statement.tokens.now) ts (row_length ts _ row)
    ∙ ap (λ f. kind_of names (called c.args.names c.args.names.variables.text.now c.args.statement.tokens.now) f (map (λ t. t.word) ts))
    (sym (row_form ts _ row))

pub returns-in-Some-Comparison : goal.returns-in-Some-Comparison
returns-in-Some-Comparison c =
    let text = c.args.names.variables.text.now in
    let ts = tokens_view text c.args.statement.tokens.now in
    let names = names_view c.args.names in
    let row = row_of ts (length c.args.statement.tokens.now) c.form.result c.in-Some-Comparison.field-0 form.Comparison (c.form.ensures text)
    c.in-Some-Comparison.is c.in-Some-Comparison.field-0-is in
    c.comparison.ensures
    ∙ comparison_words names (called c.args.names c.args.names.variables.text.now c.args.statement.tokens.now) ts (row_length ts _ row)
    ∙ ap (λ f. kind_of names (called c.args.names c.args.names.variables.text.now c.args.statement.tokens.now) f (map (λ t. t.word) ts))
    (sym (row_form ts _ row))

pub returns-in-Some-Copy : goal.returns-in-Some-Copy
returns-in-Some-Copy c =
    let text = c.args.names.variables.text.now in
    let ts = tokens_view text c.args.statement.tokens.now in
    let names = names_view c.args.names in
    let row = row_of ts (length c.args.statement.tokens.now) c.form.result c.in-Some-Copy.field-0 form.Copy (c.form.ensures text)
    c.in-Some-Copy.is c.in-Some-Copy.field-0-is in
    c.copy.ensures
    ∙ copy_words names (called c.args.names c.args.names.variables.text.now c.args.statement.tokens.now) ts (row_length ts _ row)
    ∙ ap (λ f. kind_of names (called c.args.names c.args.names.variables.text.now c.args.statement.tokens.now) f (map (λ t. t.word) ts))
    (sym (row_form ts _ row))

pub returns-in-Some-Jump : goal.returns-in-Some-Jump
returns-in-Some-Jump c =
    let text = c.args.names.variables.text.now in
    let ts = tokens_view text c.args.statement.tokens.now in
    let names = names_view c.args.names in
    let row = row_of ts (length c.args.statement.tokens.now) c.form.result c.in-Some-Jump.field-0 form.Jump (c.form.ensures text)
    c.in-Some-Jump.is c.in-Some-Jump.field-0-is in
    (λ i. stmt.Goto (c.number_at.ensures i))
    ∙ jump_words names (called c.args.names c.args.names.variables.text.now c.args.statement.tokens.now) ts (row_length ts _ row)
    ∙ ap (λ f. kind_of names (called c.args.names c.args.names.variables.text.now c.args.statement.tokens.now) f (map (λ t. t.word) ts))
    (sym (row_form ts _ row))

pub returns-in-Some-Test : goal.returns-in-Some-Test
returns-in-Some-Test c =
    let text = c.args.names.variables.text.now in
    let ts = tokens_view text c.args.statement.tokens.now in
    let names = names_view c.args.names in
    let row = row_of ts (length c.args.statement.tokens.now) c.form.result c.in-Some-Test.field-0 form.Test (c.form.ensures text)
    c.in-Some-Test.is c.in-Some-Test.field-0-is in
    (λ i. stmt.If (c.operand_at.ensures i) (c.number_at-in-Some-Test.ensures i))
    ∙ test_words names (called c.args.names c.args.names.variables.text.now c.args.statement.tokens.now) ts (row_length ts _ row)
    ∙ ap (λ f. kind_of names (called c.args.names c.args.names.variables.text.now c.args.statement.tokens.now) f (map (λ t. t.word) ts))
    (sym (row_form ts _ row))

pub returns-in-Some-NegatedTest : goal.returns-in-Some-NegatedTest
returns-in-Some-NegatedTest c =
    let text = c.args.names.variables.text.now in
    let ts = tokens_view text c.args.statement.tokens.now in
    let names = names_view c.args.names in
    let row = row_of ts (length c.args.statement.tokens.now) c.form.result c.in-Some-NegatedTest.field-0 form.NegatedTest (c.form.ensures text)
    c.in-Some-NegatedTest.is c.in-Some-NegatedTest.field-0-is in
    (λ i. stmt.IfFalse (c.operand_at-in-Some-NegatedTest.ensures i) (c.number_at-in-Some-NegatedTest.ensures i))
    ∙ negated_words names (called c.args.names c.args.names.variables.text.now c.args.statement.tokens.now) ts (row_length ts _ row)
    ∙ ap (λ f. kind_of names (called c.args.names c.args.names.variables.text.now c.args.statement.tokens.now) f (map (λ t. t.word) ts))
    (sym (row_form ts _ row))

pub returns-in-Some-Read : goal.returns-in-Some-Read
returns-in-Some-Read c =
    let text = c.args.names.variables.text.now in
    let ts = tokens_view text c.args.statement.tokens.now in
    let names = names_view c.args.names in
    let row = row_of ts (length c.args.statement.tokens.now) c.form.result c.in-Some-Read.field-0 form.Read (c.form.ensures text)
    c.in-Some-Read.is c.in-Some-Read.field-0-is in
    (λ i. stmt.Read (c.variable_at.ensures i))
    ∙ read_words names (called c.args.names c.args.names.variables.text.now c.args.statement.tokens.now) ts (row_length ts _ row)
    ∙ ap (λ f. kind_of names (called c.args.names c.args.names.variables.text.now c.args.statement.tokens.now) f (map (λ t. t.word) ts))
    (sym (row_form ts _ row))

pub returns-in-Some-Print : goal.returns-in-Some-Print
returns-in-Some-Print c =
    let text = c.args.names.variables.text.now in
    let ts = tokens_view text c.args.statement.tokens.now in
    let names = names_view c.args.names in
    let row = row_of ts (length c.args.statement.tokens.now) c.form.result c.in-Some-Print.field-0 form.Print (c.form.ensures text)
    c.in-Some-Print.is c.in-Some-Print.field-0-is in
    (λ i. stmt.Print (c.operand_at-in-Some-Print.ensures i))
    ∙ print_words names (called c.args.names c.args.names.variables.text.now c.args.statement.tokens.now) ts (row_length ts _ row)
    ∙ ap (λ f. kind_of names (called c.args.names c.args.names.variables.text.now c.args.statement.tokens.now) f (map (λ t. t.word) ts))
    (sym (row_form ts _ row))
