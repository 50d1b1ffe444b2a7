use Rattle.std.proofs.Common.{◌<◌, length, arith}
use Rattle.flow_regions.specs.code.Ways.{by_call}
use Rattle.flow_regions.proofs.ways.pass_hop.Goals as goal

pub returns-then-has_call : goal.returns-then-has_call
returns-then-has_call c =
    let before : c.args.before < length c.args.ways.now = omega (arith, c.if-before-ways.false) in
    let exit : c.args.exit < length c.args.ways.now = omega (arith, c.if-exit-ways.false) in
    by_call c.args.before c.args.exit before exit (c.has_call.ensures.0 c.if-has_call.true)
