-- Edges, paths, valid paths and their values, over the points, procedures and edges of any problem.
--
-- A path is valid where each return goes back to the site of the latest call that has not yet been returned from; calls
-- may be left open at its end (interprocedurally valid paths: Reps, Horwitz, Sagiv 1995). Its value is the boundary taken
-- through gen union (X minus kill), edge by edge (Aho, Lam, Sethi, Ullman, 2nd edition, 9.2 and 9.5). The meet over all
-- valid paths asks whether some of them, or every one, has a bit in its value (Kildall 1973).
use Rattle.std.specs.Prelude.{◌≡◌, ℕ, Bool, true, not, ◌&&◌, ◌||◌, List, [], ◌∷◌, Option, Some, None, option_and_then, IsSome, Contains, nat_eq}
use Rattle.std.specs.Prelude.{if◌then◌else◌}
pub use Rattle.flow_graph.specs.declared.edge.Edge.{Edge}
pub use Rattle.flow_graph.specs.declared.edge.Edge.TheVariants.{Step, Call, Ret}

-- the point at which an edge begins
abbrev pub source_of : Edge → ℕ
source_of (Step source target) = source
source_of (Call site source target) = source
source_of (Ret site source target) = source

-- the point at which it ends
abbrev pub target_of : Edge → ℕ
target_of (Step source target) = target
target_of (Call site source target) = target
target_of (Ret site source target) = target

-- A problem's procedures, points and edges: the procedure that begins it, how many procedures there are, the entry and
-- the exit of each, the procedure of each point, and all edges. In a program's own direction an entry is a procedure's
-- first point and an exit its end; where the problem is reversed the two are exchanged.
pub record Shape : Type 0 where
  pub root_procedure : ℕ
  pub procedures : ℕ
  pub entry : ℕ → ℕ
  pub exit : ℕ → ℕ
  pub procedure_of : ℕ → ℕ
  pub edges : List Edge

-- What a problem says of one bit: whether a step, given by its two ends, makes the bit and whether it kills it, and
-- whether the boundary has it.
pub record Transfer : Type 0 where
  pub gen : ℕ → ℕ → Bool
  pub kill : ℕ → ℕ → Bool
  pub boundary : Bool

abbrev pub IsEdge : Shape → Edge → Type 0
IsEdge shape edge = Contains shape.edges edge

-- the point at which a forward problem begins
abbrev pub root : Shape → ℕ
root shape = shape.entry shape.root_procedure

-- the point at which a backward problem begins: the end of the root's procedure
abbrev pub final : Shape → ℕ
final shape = shape.exit shape.root_procedure

-- A path from one point to another: each edge begins where the one before ended. The empty list leads from a point to
-- itself.
abbrev pub IsPath : Shape → ℕ → List Edge → ℕ → Type 0
IsPath shape start [] finish = start ≡ finish
IsPath shape start (edge ∷ path) finish = IsEdge shape edge × (source_of edge ≡ start) × IsPath shape (target_of edge) path finish

-- The open sites after an edge, the latest first: a call opens its site, a return needs its site to be the latest and
-- closes it, a step changes nothing. None where a return does not match.
abbrev pub sites_after_edge : Edge → List ℕ → Option (List ℕ)
sites_after_edge (Step source target) sites = Some sites
sites_after_edge (Call site source target) sites = Some (site ∷ sites)
sites_after_edge (Ret site source target) [] = None
sites_after_edge (Ret site source target) (latest ∷ sites) = if nat_eq site latest then Some sites else None

-- the open sites after a path that is read from its first edge on
abbrev pub open_sites_after : List Edge → Option (List ℕ) → Option (List ℕ)
open_sites_after [] sites = sites
open_sites_after (edge ∷ path) sites = open_sites_after path (option_and_then (sites_after_edge edge) sites)

-- A forward valid path to a point: from the root, each return matching the latest open call.
abbrev pub IsValidPath : Shape → List Edge → ℕ → Type 0
IsValidPath shape path point = IsPath shape (root shape) path point × IsSome (open_sites_after path (Some []))

-- One bit of gen union (X minus kill), X being the set before the edge in a forward problem and after it in a backward
-- one. Calls and returns change nothing.
abbrev pub value_across : Transfer → Edge → Bool → Bool
value_across transfer (Step source target) value = transfer.gen source target || (value && not (transfer.kill source target))
value_across transfer (Call site source target) value = value
value_across transfer (Ret site source target) value = value

-- the value of a path in a forward problem, from its first edge on
abbrev pub value_after : Transfer → List Edge → Bool → Bool
value_after transfer [] value = value
value_after transfer (edge ∷ path) value = value_after transfer path (value_across transfer edge value)

-- some valid path leads to the point
abbrev pub HasPath : Shape → ℕ → Type 0
HasPath shape point = (path : List Edge) × IsValidPath shape path point

-- the meet of a forward may problem: some valid path to the point has the bit in its value
abbrev pub SomePathHas : Shape → Transfer → ℕ → Type 0
SomePathHas shape transfer point =
    (path : List Edge) × IsValidPath shape path point × (value_after transfer path transfer.boundary ≡ true)

-- The meet of a forward must problem: every valid path to the point has the bit in its value. Where there is no valid
-- path every bit is in it.
abbrev pub EveryPathHas : Shape → Transfer → ℕ → Type 0
EveryPathHas shape transfer point =
    (path : List Edge) → IsValidPath shape path point → value_after transfer path transfer.boundary ≡ true

-- The open sites before an edge of a path that is read from its last edge to its first: a return opens its site, a call
-- needs its site to be the latest and closes it.
abbrev pub sites_before_edge : Edge → List ℕ → Option (List ℕ)
sites_before_edge (Step source target) sites = Some sites
sites_before_edge (Ret site source target) sites = Some (site ∷ sites)
sites_before_edge (Call site source target) [] = None
sites_before_edge (Call site source target) (latest ∷ sites) = if nat_eq site latest then Some sites else None

-- the open sites before a path that is read from its last edge to its first
abbrev pub open_sites_before : List Edge → Option (List ℕ) → Option (List ℕ)
open_sites_before [] sites = sites
open_sites_before (edge ∷ path) sites = option_and_then (sites_before_edge edge) (open_sites_before path sites)

-- A backward valid path from a point: to the end of the root's procedure, each call matching, from behind, the latest
-- open return. So it may leave procedures that it did not enter, and ends with no call open.
abbrev pub IsBackwardValidPath : Shape → List Edge → ℕ → Type 0
IsBackwardValidPath shape path point = IsPath shape point path (final shape) × IsSome (open_sites_before path (Some []))

-- the value of a path in a backward problem, from its last edge back
abbrev pub value_before : Transfer → List Edge → Bool → Bool
value_before transfer [] value = value
value_before transfer (edge ∷ path) value = value_across transfer edge (value_before transfer path value)

-- some backward valid path begins at the point
abbrev pub HasBackwardPath : Shape → ℕ → Type 0
HasBackwardPath shape point = (path : List Edge) × IsBackwardValidPath shape path point

-- the meet of a backward may problem
abbrev pub SomeBackwardPathHas : Shape → Transfer → ℕ → Type 0
SomeBackwardPathHas shape transfer point =
    (path : List Edge) × IsBackwardValidPath shape path point × (value_before transfer path transfer.boundary ≡ true)

-- the meet of a backward must problem
abbrev pub EveryBackwardPathHas : Shape → Transfer → ℕ → Type 0
EveryBackwardPathHas shape transfer point =
    (path : List Edge) → IsBackwardValidPath shape path point → value_before transfer path transfer.boundary ≡ true
