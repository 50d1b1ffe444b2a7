-- Executions: points that lead to no end through reached points, and what an execution reads before it writes it.
--
-- An execution, finished or not, passes a valid path from the root, on which calls may be open: a forward valid path. A
-- point is reached where some such path leads to it (`HasPath`).
use Rattle.std.specs.Prelude.{◌≡◌, ℕ, true, List, [], ◌∷◌, ◌++◌}
use Rattle.flow_graph.specs.Paths.{target_of, Shape, root, IsPath, IsValidPath, HasPath, HasBackwardPath}
use Rattle.flow_graph.specs.declared.edge.Edge.{Edge}
use Rattle.flow_graph.specs.Runs.{Accesses, is_unwritten_along}

-- each point of a path that begins at this one is reached, the first and the last included
abbrev pub IsReachedAlong : Shape → ℕ → List Edge → Type 0
IsReachedAlong shape start [] = HasPath shape start
IsReachedAlong shape start (edge ∷ path) = HasPath shape start × IsReachedAlong shape (target_of edge) path

-- A point is doubtful on executions where some path from it, the empty one too and whichever call a return belongs to, but
-- through reached points alone, leads to a point that has no backward valid path.
abbrev pub IsDoubtfulOnExecutions : Shape → ℕ → Type 0
IsDoubtfulOnExecutions shape point =
    (path : List Edge) × (ahead : ℕ) × IsPath shape point path ahead × IsReachedAlong shape point path × ¬ (HasBackwardPath shape ahead)

-- Some execution comes to the point, and goes on to one whose statement reads the variable, and no statement that it
-- passes from the point on writes it. Each finite beginning of an endless execution is one.
abbrev pub IsReadBehind : Shape → Accesses → ℕ → Type 0
IsReadBehind shape accesses point =
    (before : List Edge) × (after : List Edge) × (reader : ℕ)
    × IsValidPath shape (before ++ after) reader × IsPath shape (root shape) before point
    × (is_unwritten_along accesses after ≡ true) × (accesses.reads reader ≡ true)
