use Rattle.std.proofs.Common.{◌<◌, ℕ, Bool, arith, sym}
use Rattle.std.specs.List.{list_any, range_with_len}
use Rattle.flow_graph.specs.Universes.{bits}
use Rattle.flow_steps.specs.code.Told.{differs_at}
use Rattle.flow_steps.proofs.told.Kept.{next_any}
use Rattle.flow_steps.proofs.sets.differs.Goals as goal

pub loop-bit-preserved : goal.loop-bit-preserved
loop-bit-preserved c =
    let test : ℕ → Bool = differs_at c.args.frame.now c.args.old.now c.args.new.now c.args.point in
    let count : ℕ = bits c.args.frame.now.program c.args.frame.now.analysis in
    let below : c.loop-bit.bit < bits c.args.frame.now.program c.args.frame.now.analysis = omega
    (arith, c.loop-bit-test.true, c.bits-bit-end.ensures) in
    next_any test c.loop-bit.bit count (list_any test (range_with_len 0 count)) below (sym c.if-is_changed.ensures) c.loop-bit.invariant
