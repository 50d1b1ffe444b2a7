use Rattle.std.proofs.Common.{ℕ, ◌<◌, ◌≤◌, get_or}
use Rattle.graph_components.proofs.levels.are_levels.Given as goal

abbrev pub invariant-loop-arc : goal.invariant-loop-arc
invariant-loop-arc l =
    (k : ℕ) → k < l.arc-index → get_or l.levels (get_or l.arcs k (record { from = 0; to = 0 })).to 0
    ≤ get_or l.levels (get_or l.arcs k (record { from = 0; to = 0 })).from 0
