use Rattle.tac_faults.proofs.NameLists.{repeated_more, table_more}
use Rattle.tac_faults.specs.Listed.{most_found}
use Rattle.tac_faults.proofs.names.tell_repeated.Goals as goal

pub loop-token-preserved : goal.loop-token-preserved
loop-token-preserved c =
    let text = c.args.text.now in
    let tokens = c.args.tokens.now in
    let i = c.loop-token.token-index in
    let before = c.loop-token.invariant in
    record {
      table = table_more c.args.kind text tokens i _ c.spelling.result.now c.loop-token.names c.insert_full.new.self c.loop-token-test.true
          c.spelling.ensures c.in_ok-is_new.ensures.noted before.table;
      told = repeated_more c.args.kind text tokens most_found i _ c.spelling.result.now c.loop-token.names c.in_ok-is_new.is_new
          c.loop-token.found.items c.tell.new.found.items _ c.loop-token-test.true c.spelling.ensures before.table c.in_ok-is_new.ensures.new
          c.in_ok-tell.ensures before.told;
    }
