-- The analyses in a list: their numbers, and which of them go one way.
use Rattle.std.specs.Prelude.{ℕ, Bool, true, false, not}
use Rattle.flow_graph.specs.Analyses.{is_backward}
use Rattle.flow_graph.specs.Universes.{Analysis, Reach, Live, Avail, Busy}

-- the place of an analysis among all four
abbrev pub analysis_number : Analysis → ℕ
analysis_number Reach = 0
analysis_number Live = 1
analysis_number Avail = 2
analysis_number Busy = 3

-- whether an analysis goes backwards, or else whether it goes forwards
abbrev pub goes : Bool → Analysis → Bool
goes true analysis = is_backward analysis
goes false analysis = not (is_backward analysis)
