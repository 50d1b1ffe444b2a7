use Rattle.tac_faults.proofs.NameLists.{unknown_more}
use Rattle.tac_faults.specs.Listed.{most_found}
use Rattle.tac_faults.proofs.names.tell_unknown.Goals as goal

pub loop-token-preserved : goal.loop-token-preserved
loop-token-preserved c known is_known =
    unknown_more c.args.kind c.args.text.now c.args.tokens.now most_found c.loop-token.token-index _ c.spelling.result.now c.args.names.now known
    c.find.result c.is_none-is_unknown.result c.loop-token.found.items c.tell.new.found.items _ c.loop-token-test.true c.spelling.ensures is_known
    c.find.ensures.number c.is_none-is_unknown.ensures c.in_ok-tell.ensures (c.loop-token.invariant known is_known)
