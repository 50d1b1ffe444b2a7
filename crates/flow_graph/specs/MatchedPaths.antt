-- Paths inside procedures, and paths by which procedures are entered.
use Rattle.std.specs.Prelude.{◌≡◌, ℕ, Bool, true, not, ◌&&◌, List, [], ◌∷◌, ◌++◌, Some, ◌⊎◌}
use Rattle.flow_graph.specs.Paths.{Edge, Step, Call, Ret, Shape, IsPath, IsValidPath, open_sites_after}

-- A matched path: each return matches a call of the path, and each call of the path returns.
abbrev pub IsMatchedPath : Shape → ℕ → List Edge → ℕ → Type 0
IsMatchedPath shape start path finish = IsPath shape start path finish × (open_sites_after path (Some []) ≡ Some [])

-- a matched path to a point from the entry of that point's procedure
abbrev pub IsPathFromEntry : Shape → List Edge → ℕ → Type 0
IsPathFromEntry shape path point = IsMatchedPath shape (shape.entry (shape.procedure_of point)) path point

-- a path whose last edge is a call of a procedure
abbrev pub EndsInCallOf : Shape → List Edge → ℕ → Type 0
EndsInCallOf shape path procedure = (front : List Edge) × (site : ℕ) × (point : ℕ) × (path ≡ front ++ Call site point (shape.entry procedure) ∷ [])

-- A valid path by which a procedure is entered: the empty one at the root, or one whose last edge is a call of it.
abbrev pub IsEnteringPath : Shape → List Edge → ℕ → Type 0
IsEnteringPath shape path procedure =
    IsValidPath shape path (shape.entry procedure)
    × (((path ≡ []) × (procedure ≡ shape.root_procedure)) ⊎ EndsInCallOf shape path procedure)

-- whether no step of a path kills the bit
abbrev pub is_preserved_along : (ℕ → ℕ → Bool) → List Edge → Bool
is_preserved_along kill [] = true
is_preserved_along kill (Step source target ∷ path) = not (kill source target) && is_preserved_along kill path
is_preserved_along kill (Call site source target ∷ path) = is_preserved_along kill path
is_preserved_along kill (Ret site source target ∷ path) = is_preserved_along kill path
