use Rattle.std.proofs.Common.{◌≡◌, ◌-◌}
use Rattle.std.specs.List.{list_any, range_with_len}
use Rattle.flow_graph.specs.Universes.{bits}
use Rattle.flow_steps.specs.code.Told.{differs_at}
use Rattle.flow_steps.proofs.sets.differs.Given as goal

abbrev pub invariant-loop-bit : goal.invariant-loop-bit
invariant-loop-bit l =
    list_any (differs_at l.frame l.old l.new l.point) (range_with_len l.bit (bits l.frame.program l.frame.analysis - l.bit))
    ≡ list_any (differs_at l.frame l.old l.new l.point) (range_with_len 0 (bits l.frame.program l.frame.analysis))
