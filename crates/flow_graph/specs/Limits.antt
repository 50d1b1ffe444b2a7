-- How large a graph may be, and which refusal answers what is larger.
use Rattle.std.specs.Prelude.{◌≤◌, ◌<◌, ℕ}
use Rattle.tac_program.specs.Limits.{most_definitions, most_expressions, most_points, most_variables}
use Rattle.tac_program.specs.Programs.{Program}
use Rattle.tac_program.specs.declared.limits.Limits.{Limits}
use Rattle.flow_graph.specs.Points.{point_count}
use Rattle.flow_graph.specs.Universes.{Analysis, Reach, Live, Avail, Busy, bits}

-- the most bits that an analysis may have
abbrev pub most_bits : Limits → Analysis → ℕ
most_bits limits Reach = most_definitions limits
most_bits limits Live = most_variables limits
most_bits limits Avail = most_expressions limits
most_bits limits Busy = most_expressions limits

abbrev pub HasFewPoints : Limits → Program → Type 0
HasFewPoints limits program = point_count program ≤ most_points limits

abbrev pub HasFewBits : Limits → Program → Type 0
HasFewBits limits program = (analysis : Analysis) → bits program analysis ≤ most_bits limits analysis

-- too many points; and of programs with few points, too many bits in some universe
abbrev pub HasManyPoints : Limits → Program → Type 0
HasManyPoints limits program = most_points limits < point_count program

abbrev pub HasManyBits : Limits → Program → Type 0
HasManyBits limits program = HasFewPoints limits program × ((analysis : Analysis) × (most_bits limits analysis < bits program analysis))
