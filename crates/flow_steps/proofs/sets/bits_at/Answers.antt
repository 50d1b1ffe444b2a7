use Rattle.std.proofs.Common.{◌∙◌, ◌∷◌, ◌++◌, ◌<◌, [], ℕ, Bool, ap, arith, filter, if◌then◌else◌}
use Rattle.std.specs.List.{range_with_len}
use Rattle.flow_graph.specs.Universes.{bits}
use Rattle.flow_rounds.specs.code.Frames.{bit_in}
use Rattle.flow_steps.proofs.told.Kept.{next_number}
use Rattle.flow_steps.proofs.sets.bits_at.Goals as goal

pub loop-bit-preserved : goal.loop-bit-preserved
loop-bit-preserved c =
    let test : ℕ → Bool = bit_in c.args.frame.now.points c.args.columns.now c.args.point in
    let count : ℕ = bits c.args.frame.now.program c.args.frame.now.analysis in
    let below : c.loop-bit.bit < bits c.args.frame.now.program c.args.frame.now.analysis = omega
    (arith, c.loop-bit-test.true, c.bits-bit-end.ensures) in
    next_number test c.loop-bit.bit count c.loop-bit.bits.items c.push_if.new.list.items (filter test (range_with_len 0 count)) below
    (c.in_ok-push_if.ensures ∙ ap (λ (b : Bool). c.loop-bit.bits.items ++ (if b then c.loop-bit.bit ∷ [] else [])) c.has.ensures)
    c.loop-bit.invariant
