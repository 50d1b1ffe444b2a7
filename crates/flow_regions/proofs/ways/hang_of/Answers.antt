use Rattle.std.proofs.Common.{◌<◌, ◌∙◌, length, arith}
use Rattle.flow_regions.specs.code.Ways.{by_site, is_root}
use Rattle.flow_regions.proofs.ways.hang_of.Goals as goal

pub returns-then-hung-root : goal.returns-then-hung-root
returns-then-hung-root c = is_root (c.if-hung-root.true ∙ c.root.ensures)

pub returns-then-has_site : goal.returns-then-has_site
returns-then-has_site c =
    let caller : c.number_at-caller.result < length c.args.tree.now = omega (arith, c.if-caller-tree.false) in
    let way : c.number_at-way.result < length c.args.ways.now = omega (arith, c.if-way-ways.false) in
    by_site c.number_at-caller.result c.number_at-way.result caller way (c.has_site.ensures.0 c.if-has_site.true)
