-- What numbers stand for: limits, analyses, and where a range of points ends.
use Rattle.std.specs.Prelude.{ℕ, ◌==◌, if◌then◌else◌, Option, Some, None}
use Rattle.flow_graph.specs.Points.{point_count}
use Rattle.flow_graph.specs.declared.analysis.Analysis.{Analysis}
use Rattle.flow_graph.specs.declared.analysis.Analysis.TheVariants.{Reach, Live, Avail, Busy}
use Rattle.tac_program.specs.Programs.{Program}
use Rattle.tac_program.specs.declared.limits.Limits.{Limits}
use Rattle.tac_program.specs.declared.limits.Limits.TheVariants.{Standard, Large}

-- the limits of a number
abbrev pub limits_of : ℕ → Option Limits
limits_of number = if number == 0 then Some Standard else if number == 1 then Some Large else None

-- the analysis of a number
abbrev pub analysis_of : ℕ → Option Analysis
analysis_of number =
    if number == 0 then Some Reach else if number == 1 then Some Live else if number == 2 then Some Avail else if number == 3 then Some Busy else None

-- where a range of points ends; the largest number of 32 bits stands for the end of all points
abbrev pub end_of : Program → ℕ → ℕ
end_of program until = if until == 4294967295 then point_count program else until
