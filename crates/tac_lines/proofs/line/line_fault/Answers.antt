use Rattle.std.proofs.Common.{◌∙◌, ap, not, sym}
use Rattle.tac_lines.specs.code.Views.{tokens_view}
use Rattle.tac_lines.proofs.lines.FineStatements.{fine_statement}
use Rattle.tac_lines.proofs.line.line_fault.Goals as goal

pub returns-then-not-has_word_fault : goal.returns-then-not-has_word_fault
returns-then-not-has_word_fault c =
    let text = c.args.text.now in
    sym (fine_statement c.args.inside c.args.bad (tokens_view text c.args.line.tokens.now) c.if-inside.true (c.is_none.ensures
    ∙ ap not c.if-is_none.true)
    (c.is_statement.ensures text ∙ c.if-is_statement.true) (c.has_word_fault.ensures c.if-not-has_word_fault.true))
