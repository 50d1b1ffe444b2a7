-- What is proved of the rounds.
use Rattle.std.specs.Prelude.{◌≡◌, ◌↔◌, ◌<◌, ℕ, true, length}
use Rattle.tac_program.specs.Sound.{IsSound}
use Rattle.flow_graph.specs.Analyses.{IsInTable}
use Rattle.flow_graph.specs.Universes.{bits}
use Rattle.flow_rounds.specs.Steps.{IsInside, IsIteration, IsLast, Iteration, set_after}

-- The rounds end at the table: the sets that the last of them leaves are the meets over all valid paths, at each point of the procedure.
abbrev pub RoundsEndAtTable : Type 0
RoundsEndAtTable =
    (iteration : Iteration) (rounds point bit : ℕ) → IsSound iteration.program → iteration.procedure < length iteration.program.procedures
    → IsIteration iteration → IsLast iteration rounds → IsInside iteration.program iteration.procedure point
    → bit < bits iteration.program iteration.analysis
    → (set_after iteration rounds point bit ≡ true) ↔ IsInTable iteration.program iteration.analysis point bit
