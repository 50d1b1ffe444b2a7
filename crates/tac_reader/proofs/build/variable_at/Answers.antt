use Rattle.std.proofs.Common.{◌≡◌, ◌∙◌, sym, ap, Some, slice_get, slice_range}
use Rattle.tac_program.specs.Programs.{number_of}
use Rattle.tac_lines.specs.Tokens.{bytes_of}
use Rattle.tac_lines.specs.code.Views.{word_at}
use Rattle.tac_reader.proofs.programs.BuiltWords.{word-some, get_some}
use Rattle.tac_reader.proofs.build.variable_at.Goals as goal

pub returns-in-Name : goal.returns-in-Name
returns-in-Name c =
    let text = c.args.variables.text.now in
    let names = c.args.variables.table.now in
    let token = c.in-Some.token.now in
    let some : slice_get c.args.tokens.now c.args.at ≡ Some token =
    get_some c.args.tokens.now c.args.at token c.in-Some.ensures.lookup.0 c.in-Some.ensures.lookup.1 in
    c.number.ensures ∙ ap (λ k. number_of names (bytes_of (word_at (slice_range text token.start token.stop) k))) (sym c.in-Name.is)
    ∙ ap (λ w. number_of names (bytes_of w)) (sym (word-some text c.args.tokens.now c.args.at token some))
