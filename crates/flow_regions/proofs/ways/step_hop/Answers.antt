use Rattle.std.proofs.Common.{◌<◌, length, arith}
use Rattle.flow_regions.specs.code.Ways.{by_step}
use Rattle.flow_regions.proofs.ways.step_hop.Goals as goal

pub returns-then-has_step : goal.returns-then-has_step
returns-then-has_step c =
    let low : c.args.before < length c.args.ways.now = omega (arith, c.if-before-ways.false) in
    by_step c.args.before low (c.has_step.ensures.0 c.if-has_step.true)
