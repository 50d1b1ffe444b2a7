-- Ranks of procedures.
use Rattle.std.specs.Prelude.{◌≡◌, ◌≤◌, ◌<◌, ℕ, List, slice_index}
use Rattle.flow_graph.specs.Paths.{Shape}
use Rattle.summary_equations.specs.Equations.{CallsAt}

-- what a procedure calls has no higher rank
abbrev pub IsRanked : Shape → List ℕ → ℕ → Type 0
IsRanked shape ranks caller = (site x callee : ℕ) → CallsAt shape site x callee → shape.procedure_of x ≡ caller
    → slice_index ranks callee ≤ slice_index ranks caller

-- so it is of those before one, and of all
abbrev pub AreRankedTo : Shape → List ℕ → ℕ → Type 0
AreRankedTo shape ranks until = (caller : ℕ) → caller < until → IsRanked shape ranks caller

abbrev pub AreRanked : Shape → List ℕ → Type 0
AreRanked shape ranks = (site x callee : ℕ) → CallsAt shape site x callee → slice_index ranks callee ≤ slice_index ranks (shape.procedure_of x)
