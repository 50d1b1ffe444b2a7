use Rattle.std.proofs.Common.{◌≡◌, ◌∙◌, ap, Some, None, slice_get, slice_range}
use Rattle.tac_reader.specs.Parses.{operator_of}
use Rattle.tac_reader.proofs.programs.BuiltWords.{word-some, word-none, get_some, get_none, no_operator}
use Rattle.tac_reader.proofs.build.operator_at.Goals as goal

pub returns-in-None : goal.returns-in-None
returns-in-None c text =
    let none : slice_get c.args.tokens.now c.args.at ≡ None = get_none c.args.tokens.now c.args.at c.in-None.ensures.lookup.0 in
    ap operator_of (word-none text c.args.tokens.now c.args.at none)

pub returns-in_default : goal.returns-in_default
returns-in_default c text =
    let some : slice_get c.args.tokens.now c.args.at ≡ Some c.in-Some.token.now =
    get_some c.args.tokens.now c.args.at c.in-Some.token.now c.in-Some.ensures.lookup.0 c.in-Some.ensures.lookup.1 in
    ap operator_of (word-some text c.args.tokens.now c.args.at c.in-Some.token.now some)
    ∙ no_operator (slice_range text c.in-Some.token.now.start c.in-Some.token.now.stop) c.in-Some.token.now.kind c.in_default.not-Operator
