-- Where the doubt of points comes from.
use Rattle.std.specs.Prelude.{ℕ, ◌<◌, List, Option, None, MatchOption, get_or}
use Rattle.tac_program.specs.Programs.{Program}
use Rattle.flow_graph.specs.Analyses.{shape_of}
use Rattle.flow_graph.specs.Points.{point_count}
use Rattle.flow_graph.specs.Runs.{IsDoubtful}
use Rattle.flow_reasons.specs.Doubts.{IsDoubtOrigin}

-- Each point has one exactly where it is doubtful, and it is where the doubt of the point comes from.
abbrev pub AreOrigins : Program → (ℕ → Option ℕ) → Type 0
AreOrigins program origins =
    (point : ℕ) → point < point_count program
    → MatchOption (origins point) (¬ (IsDoubtful (shape_of program) point)) (λ origin. IsDoubtOrigin program point origin)

-- those of a list, by point
abbrev pub origins_in : List (Option ℕ) → ℕ → Option ℕ
origins_in list point = get_or list point None
