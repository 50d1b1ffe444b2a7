use Rattle.std.proofs.Common.{◌∙◌, take, map, ap, sym}
use Rattle.tac_reader.specs.code.Built.{names_view, call_numbers}
use Rattle.tac_reader.specs.Parses.{form_of, kind_of}
use Rattle.tac_lines.specs.Text.{line_after}
use Rattle.tac_lines.specs.code.Views.{tokens_view}
use Rattle.tac_reader.proofs.procedure.statement.Goals as goal

pub returns-clause-statement : goal.returns-clause-statement
returns-clause-statement c =
    let text = c.args.cursor.now in
    let names = names_view c.args.names in
    let tokens = c.args.formed.tokens.now in
    let starts = c.start_of-start.ensures text in
    let ends = c.stop_of.ensures text in
    let line = c.line_at.ensures.line ∙ ap (λ n. line_after (take n text)) (sym starts) in
    let kind = c.in_ok-kind.ensures
    ∙ ap (λ t. kind_of names (call_numbers names.procedures (tokens_view t tokens)) (form_of (tokens_view t tokens))
    (map (λ t. t.word) (tokens_view t tokens))) c.requires in
    λ i. record { kind = kind i; span = record { line = line i; start = sym starts i; end = sym ends i } }
