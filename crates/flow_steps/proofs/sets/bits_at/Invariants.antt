use Rattle.std.proofs.Common.{◌≡◌, ◌-◌, ◌++◌, filter}
use Rattle.std.specs.List.{range_with_len}
use Rattle.flow_graph.specs.Universes.{bits}
use Rattle.flow_rounds.specs.code.Frames.{bit_in}
use Rattle.flow_steps.proofs.sets.bits_at.Given as goal

abbrev pub invariant-loop-bit : goal.invariant-loop-bit
invariant-loop-bit l =
    l.bits.items ++ filter (bit_in l.frame.points l.columns l.point) (range_with_len l.bit (bits l.frame.program l.frame.analysis - l.bit))
    ≡ filter (bit_in l.frame.points l.columns l.point) (range_with_len 0 (bits l.frame.program l.frame.analysis))
