-- Where remarks tell of very busy expressions.
use Rattle.std.specs.Prelude.{ℕ, Bool, false, not, ◌&&◌, option_map, unwrap_or}
use Rattle.flow_graph.specs.Points.{kind_at}
use Rattle.flow_reports.specs.Reports.{Knowledge}
use Rattle.report_answers.specs.Statements.{is_test}
use Rattle.tac_program.specs.Programs.{Program}

-- whether a test stands at the point
abbrev pub tests_at : Program → ℕ → Bool
tests_at program point = unwrap_or (option_map is_test (kind_at program point)) false

-- whether the point is one of a test that is reached and not doubtful
abbrev pub tells_busy : Program → Knowledge → ℕ → Bool
tells_busy program known point = tests_at program point && (known.reach.has_path point && not (known.doubtful point))
