use Rattle.std.proofs.Common.{◌<◌, length, arith}
use Rattle.std.proofs.lemmas.Option.{slice_get_within}
use Rattle.flow_bounds_tests.proofs.settle_tests.are_asks.Goals as goal

pub returns-clause-asks : goal.returns-clause-asks
returns-clause-asks c _ i ask there =
    let low : i < length c.args.asks.now = slice_get_within c.args.asks.now i ask there in
    c.loop-number.invariant i ask (omega (arith, low, c.loop-number-test.false, c.loop-number.auto.number-end)) there
