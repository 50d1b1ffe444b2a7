use Rattle.flow_bounds.proofs.rules.Spreading.{grown, spread_closed, spread_within}
use Rattle.flow_bounds.proofs.words.spread.Goals as goal

pub returns-clause-grow : goal.returns-clause-grow
returns-clause-grow c = grown c.args.words.now c.args.rule.to c.both_word-more.result c.add_word.new.words c.add_word.ensures.count c.add_word.ensures.bits

pub returns-clause-within : goal.returns-clause-within
returns-clause-within c =
    spread_within c.args.rule c.args.words.now c.add_word.new.words c.both_word-both.result c.both_word-more.result
    c.both_word-both.ensures c.both_word-more.ensures c.add_word.ensures.bits

pub returns-clause-closed : goal.returns-clause-closed
returns-clause-closed c none =
    spread_closed c.args.rule c.args.words.now c.add_word.new.words c.both_word-both.result c.both_word-more.result
    c.both_word-both.ensures c.both_word-more.ensures c.add_word.ensures.bits (c.add_word.ensures.same none)
