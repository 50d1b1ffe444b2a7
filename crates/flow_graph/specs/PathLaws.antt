-- What is proved of paths and of their values.
use Rattle.std.specs.Prelude.{◌≡◌, ℕ, Bool, not, ◌&&◌, ◌||◌, List, [], ◌∷◌, ◌++◌, Some, ◌<◌, ◌↔◌}
use Rattle.flow_graph.specs.Paths.{Edge, Step, Call, Ret, Shape, Transfer, IsEdge, IsPath, open_sites_after, IsValidPath, value_after, HasPath}
use Rattle.flow_graph.specs.Paths.{SomePathHas, EveryPathHas, IsBackwardValidPath, value_before, HasBackwardPath, SomeBackwardPathHas}
use Rattle.flow_graph.specs.Paths.{EveryBackwardPathHas}
use Rattle.flow_graph.specs.Reversals.{reversed_path, reversed_shape, reversed_transfer, complemented_transfer}
use Rattle.flow_graph.specs.WellFormed.{IsWellFormed, HasSameEdges, AgreesOnSteps}
use Rattle.flow_graph.specs.MatchedPaths.{IsPathFromEntry, IsEnteringPath}

-- A backward valid path of a problem, walked backwards, is a forward valid path of the reversed problem, and the other way
-- round.
abbrev pub ValidPathsReverse : Type 0
ValidPathsReverse =
    (shape : Shape) (path : List Edge) (point : ℕ)
    → IsBackwardValidPath shape path point ↔ IsValidPath (reversed_shape shape) (reversed_path path) point

-- it has the same value
abbrev pub ValuesReverse : Type 0
ValuesReverse =
    (transfer : Transfer) (path : List Edge) (value : Bool)
    → value_before transfer path value ≡ value_after (reversed_transfer transfer) (reversed_path path) value

-- so the flags and meets of a backward problem are those of the reversed one
abbrev pub MeetsReverse : Type 0
MeetsReverse =
    (shape : Shape) (transfer : Transfer) (point : ℕ)
    → (HasBackwardPath shape point ↔ HasPath (reversed_shape shape) point)
    × (SomeBackwardPathHas shape transfer point ↔ SomePathHas (reversed_shape shape) (reversed_transfer transfer) point)
    × (EveryBackwardPathHas shape transfer point ↔ EveryPathHas (reversed_shape shape) (reversed_transfer transfer) point)

-- what is reversed twice is as it was
abbrev pub ReversalUndoesItself : Type 0
ReversalUndoesItself =
    ((shape : Shape) → reversed_shape (reversed_shape shape) ≡ shape)
    × ((path : List Edge) → reversed_path (reversed_path path) ≡ path)

-- the reversed problem of a well-formed one is well formed
abbrev pub ReversedIsWellFormed : Type 0
ReversedIsWellFormed = (shape : Shape) → IsWellFormed shape → IsWellFormed (reversed_shape shape)

-- The complement of gen union (X minus kill) is (kill minus gen) union (Y minus gen), Y being the complement of X.
abbrev pub TransferComplement : Type 0
TransferComplement =
    (gen kill value : Bool) → not (gen || (value && not kill)) ≡ ((kill && not gen) || (not value && not gen))

-- so the complemented problem gives each path the opposite value, in both directions
abbrev pub ValuesComplement : Type 0
ValuesComplement =
    (transfer : Transfer) (path : List Edge) (value : Bool)
    → (value_after (complemented_transfer transfer) path (not value) ≡ not (value_after transfer path value))
    × (value_before (complemented_transfer transfer) path (not value) ≡ not (value_before transfer path value))

-- and every path has a bit exactly where none has it in the complemented problem
abbrev pub MeetsComplement : Type 0
MeetsComplement =
    (shape : Shape) (transfer : Transfer) (point : ℕ)
    → (EveryPathHas shape transfer point ↔ (¬ (SomePathHas shape (complemented_transfer transfer) point)))
    × (EveryBackwardPathHas shape transfer point ↔ (¬ (SomeBackwardPathHas shape (complemented_transfer transfer) point)))

-- it does not matter which of the two is done first
abbrev pub ComplementOfReversed : Type 0
ComplementOfReversed =
    (transfer : Transfer) → complemented_transfer (reversed_transfer transfer) ≡ reversed_transfer (complemented_transfer transfer)

-- On a valid path a return that matches a call leaves from the callee that the call entered. A path between the two is
-- matched where it leaves no site open and closes none of those before it.
abbrev pub MatchedReturnsLeaveTheirCallee : Type 0
MatchedReturnsLeaveTheirCallee =
    (shape : Shape) (before between after : List Edge) (site x y site' u z finish : ℕ) → IsWellFormed shape
    → IsValidPath shape (before ++ Call site x y ∷ (between ++ Ret site' u z ∷ after)) finish
    → open_sites_after between (Some []) ≡ Some []
    → (site' ≡ site) × (u ≡ shape.exit (shape.procedure_of y))

-- a step continues a matched path
abbrev pub StepsJoin : Type 0
StepsJoin =
    (shape : Shape) (path : List Edge) (x y : ℕ) → IsWellFormed shape
    → IsEdge shape (Step x y) → IsPathFromEntry shape path x → IsPathFromEntry shape (path ++ Step x y ∷ []) y

-- A matched path to a call, the call, a matched path through its callee and the return of the same site make a matched
-- path.
abbrev pub CalleePathsJoin : Type 0
CalleePathsJoin =
    (shape : Shape) (path inner : List Edge) (site x procedure z : ℕ) → IsWellFormed shape → procedure < shape.procedures
    → IsEdge shape (Call site x (shape.entry procedure)) → IsEdge shape (Ret site (shape.exit procedure) z)
    → IsPathFromEntry shape path x → IsPathFromEntry shape inner (shape.exit procedure)
    → IsPathFromEntry shape (path ++ Call site x (shape.entry procedure) ∷ (inner ++ Ret site (shape.exit procedure) z ∷ [])) z

-- a valid path to a call and the call make a path by which the callee is entered
abbrev pub CallsEnter : Type 0
CallsEnter =
    (shape : Shape) (path : List Edge) (site x procedure : ℕ)
    → IsEdge shape (Call site x (shape.entry procedure)) → IsValidPath shape path x
    → IsEnteringPath shape (path ++ Call site x (shape.entry procedure) ∷ []) procedure

-- A path is valid exactly where it splits at its last open call: into a path by which the procedure of its last point is
-- entered, and a matched path from there.
abbrev pub ValidPathsSplit : Type 0
ValidPathsSplit =
    (shape : Shape) (path : List Edge) (point : ℕ) → IsWellFormed shape
    → IsValidPath shape path point
    ↔ ((front : List Edge) × (back : List Edge) × (path ≡ front ++ back)
    × IsEnteringPath shape front (shape.procedure_of point) × IsPathFromEntry shape back point)

-- paths are joined at a point, and split at any place
abbrev pub PathsCompose : Type 0
PathsCompose =
    (shape : Shape) (front back : List Edge) (start finish : ℕ)
    → IsPath shape start (front ++ back) finish ↔ ((middle : ℕ) × IsPath shape start front middle × IsPath shape middle back finish)

-- A beginning of a valid path is a valid path. So the path before the last open call, and then the one before the call
-- that was open there, is split in the same way.
abbrev pub FrontsAreValid : Type 0
FrontsAreValid =
    (shape : Shape) (front back : List Edge) (finish : ℕ) → IsValidPath shape (front ++ back) finish
    → (middle : ℕ) × IsValidPath shape front middle × IsPath shape middle back finish

-- problems with the same edges, and the same gen and kill on them, have the same meets forwards
abbrev pub SameEdgesSamePaths : Type 0
SameEdgesSamePaths =
    (first second : Shape) (transfer other : Transfer) (point : ℕ) → HasSameEdges first second → AgreesOnSteps first transfer other
    → (HasPath first point ↔ HasPath second point)
    × (SomePathHas first transfer point ↔ SomePathHas second other point)
    × (EveryPathHas first transfer point ↔ EveryPathHas second other point)

-- and backwards
abbrev pub SameEdgesSameBackwardPaths : Type 0
SameEdgesSameBackwardPaths =
    (first second : Shape) (transfer other : Transfer) (point : ℕ) → HasSameEdges first second → AgreesOnSteps first transfer other
    → (HasBackwardPath first point ↔ HasBackwardPath second point)
    × (SomeBackwardPathHas first transfer point ↔ SomeBackwardPathHas second other point)
    × (EveryBackwardPathHas first transfer point ↔ EveryBackwardPathHas second other point)
