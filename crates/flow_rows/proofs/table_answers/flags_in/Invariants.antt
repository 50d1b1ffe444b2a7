use Rattle.flow_team.specs.Tables.{facts_of}
use Rattle.std.proofs.Common.{◌≡◌, map}
use Rattle.std.specs.List.{range_with_len}
use Rattle.flow_rows.proofs.table_answers.flags_in.Given as goal

abbrev pub invariant-loop-point : goal.invariant-loop-point
invariant-loop-point l = l.flags.items ≡ map (facts_of l.table).has_path (range_with_len 0 l.point)
