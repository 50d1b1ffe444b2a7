use Rattle.std.proofs.Common.{◌∙◌, ap, not, sym}
use Rattle.tac_reader.proofs.lines.FirstFaults.{unknown_past, unknown_here}
use Rattle.tac_reader.proofs.checks.first_unknown.Goals as goal

pub returns-then-is_none : goal.returns-then-is_none
returns-then-is_none c known is_known =
    sym (unknown_here c.args.kind known c.args.text.now c.args.tokens.now c.loop-token.token-index _ c.spelling.result.now c.args.names.now
    c.find.result _ c.loop-token-test.true c.spelling.ensures is_known c.find.ensures.number (c.is_none.ensures
    ∙ ap not c.if-is_none.true) (c.loop-token.invariant known is_known))

pub loop-token-preserved : goal.loop-token-preserved
loop-token-preserved c known is_known =
    unknown_past c.args.kind known c.args.text.now c.args.tokens.now c.loop-token.token-index _ c.spelling.result.now c.args.names.now c.find.result
    _ c.loop-token-test.true c.spelling.ensures is_known c.find.ensures.number (c.is_none.ensures ∙ ap not c.if-is_none.false)
    (c.loop-token.invariant known is_known)
