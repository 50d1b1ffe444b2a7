use Rattle.std.proofs.Common.{arith}
use Rattle.flow_regions.proofs.ranks.no_ranks.Goals as goal

pub returns-clause-ranked : goal.returns-clause-ranked
returns-clause-ranked c site x callee call =
    let zero = c.in_ok-ranks.ensures.zero callee in
    omega (arith, zero)
