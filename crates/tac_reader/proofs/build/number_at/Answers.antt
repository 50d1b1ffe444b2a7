use Rattle.std.proofs.Common.{◌≡◌, ◌∙◌, sym, ap, Some, None, slice_get}
use Rattle.tac_program.specs.Programs.{number_of}
use Rattle.tac_lines.specs.Tokens.{bytes_of}
use Rattle.tac_reader.proofs.programs.BuiltWords.{word-some, word-none, get_some, get_none}
use Rattle.tac_reader.proofs.build.number_at.Goals as goal

pub returns-in-None : goal.returns-in-None
returns-in-None c =
    let none : slice_get c.args.tokens.now c.args.at ≡ None = get_none c.args.tokens.now c.args.at c.in-None.ensures.lookup.0 in
    c.number.ensures ∙ ap (λ w. number_of c.args.table.now (bytes_of w)) (sym (word-none c.args.text.now c.args.tokens.now c.args.at none))

pub returns-in-Some : goal.returns-in-Some
returns-in-Some c =
    let some : slice_get c.args.tokens.now c.args.at ≡ Some c.in-Some.token.now =
    get_some c.args.tokens.now c.args.at c.in-Some.token.now c.in-Some.ensures.lookup.0 c.in-Some.ensures.lookup.1 in
    c.number-in-Some.ensures ∙ ap (number_of c.args.table.now) c.spelling.ensures
    ∙ ap (λ w. number_of c.args.table.now (bytes_of w)) (sym (word-some c.args.text.now c.args.tokens.now c.args.at c.in-Some.token.now some))
