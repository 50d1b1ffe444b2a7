use Rattle.std.proofs.Common.{◌∙◌, ℕ, ◌+◌, ◌-◌, sym, ap, arith}
use Rattle.std.specs.List.{range_with_len}
use Rattle.block_dots.proofs.sets.Exposed.{carried, carried_begin, carried_first, carried_none}
use Rattle.block_dots.proofs.exposed.exposed_down.Goals as goal

pub loop-point-init : goal.loop-point-init
loop-point-init c = carried_begin c.args.graph.now c.args.analysis c.args.bit (range_with_len c.args.first (c.args.end - c.args.first))

pub loop-point-preserved : goal.loop-point-preserved
loop-point-preserved c =
    let point : ℕ = c.loop-point.point in
    c.loop-point.invariant
    ∙ sym (carried_first c.args.graph.now c.args.analysis c.args.bit point c.args.end c.loop-point.holds c.loop-point-test.true)
    ∙ ap (carried c.args.graph.now c.args.analysis c.args.bit (range_with_len (point + 1) (c.args.end - (point + 1))))
    (sym c.stays_exposed-holds.ensures)

pub returns : goal.returns
returns c =
    carried_none c.args.graph.now c.args.analysis c.args.bit c.loop-point.point c.args.end c.loop-point.holds (omega (arith, c.loop-point-test.false))
    ∙ sym c.loop-point.invariant
