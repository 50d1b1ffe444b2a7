-- What joins the least solution of the equations to the paths.
use Rattle.std.specs.Prelude.{◌≡◌, ℕ, Bool, true, false, IsTrue, List, ◌<◌, ◌⊎◌, ◌↔◌}
use Rattle.tac_program.specs.Programs.{Program}
use Rattle.tac_program.specs.Sound.{IsSound}
use Rattle.flow_graph.specs.Analyses.{HasPathAt, IsInTable, is_must}
use Rattle.flow_graph.specs.Problems.{may_shape, may_transfer}
use Rattle.flow_graph.specs.declared.analysis.Analysis.{Analysis}
use Rattle.flow_graph.specs.declared.edge.Edge.{Edge}
use Rattle.flow_graph.specs.Paths.{Shape, Transfer, IsValidPath, IsBackwardValidPath, value_before, value_after, HasPath, SomePathHas, EveryPathHas}
use Rattle.flow_graph.specs.Paths.{HasBackwardPath, SomeBackwardPathHas, EveryBackwardPathHas}
use Rattle.flow_graph.specs.Reversals.{reversed_shape, reversed_transfer, complemented_transfer}
use Rattle.flow_graph.specs.WellFormed.{IsWellFormed, AgreesOnSteps}
use Rattle.flow_graph.specs.MatchedPaths.{IsPathFromEntry, IsEnteringPath, is_preserved_along}
use Rattle.summary_equations.specs.Equations.{Reached, Preserved, Generated, Entered, Brought, HasFlag, IsInSolution, IsClosedReached, IsClosedPreserved}
use Rattle.summary_equations.specs.Equations.{IsClosedGenerated}
use Rattle.summary_equations.specs.Equations.{IsClosedEntered, IsClosedBrought}

-- Reached, preserved and generated say that some matched path from the entry of the point's procedure exists, preserves the bit, makes
-- the bit.
abbrev pub SummariesArePaths : Type 0
SummariesArePaths =
    (shape : Shape) (transfer : Transfer) (point : ℕ) → IsWellFormed shape → shape.procedure_of point < shape.procedures
    → (Reached shape point ↔ ((path : List Edge) × IsPathFromEntry shape path point))
    × (Preserved shape transfer.kill point ↔ ((path : List Edge) × IsPathFromEntry shape path point × (is_preserved_along transfer.kill path ≡ true)))
    × (Generated shape transfer point ↔ ((path : List Edge) × IsPathFromEntry shape path point × (value_after transfer path false ≡ true)))

-- Entered and brought say that some valid path enters the procedure, and that one which does has the bit in its value.
abbrev pub EntriesArePaths : Type 0
EntriesArePaths =
    (shape : Shape) (transfer : Transfer) (procedure : ℕ) → IsWellFormed shape → procedure < shape.procedures
    → (Entered shape procedure ↔ ((path : List Edge) × IsEnteringPath shape path procedure))
    × (Brought shape transfer procedure
    ↔ ((path : List Edge) × IsEnteringPath shape path procedure × (value_after transfer path transfer.boundary ≡ true)))

-- The least solution of a forward may problem is its meet over valid paths, with recursion and all.
abbrev pub SolutionIsMeet : Type 0
SolutionIsMeet =
    (shape : Shape) (transfer : Transfer) (point : ℕ) → IsWellFormed shape
    → (HasFlag shape point ↔ HasPath shape point)
    × (IsInSolution shape transfer point ↔ SomePathHas shape transfer point)

-- A forward must problem is solved by its complement.
abbrev pub ForwardMustIsComplement : Type 0
ForwardMustIsComplement =
    (shape : Shape) (transfer : Transfer) (point : ℕ) → IsWellFormed shape
    → (¬ (IsInSolution shape (complemented_transfer transfer) point)) ↔ EveryPathHas shape transfer point

-- A backward problem is solved by its reversal: the flags,
abbrev pub BackwardFlagsAreReversed : Type 0
BackwardFlagsAreReversed =
    (shape : Shape) (point : ℕ) → IsWellFormed shape
    → HasFlag (reversed_shape shape) point ↔ HasBackwardPath shape point

-- the sets of a may problem,
abbrev pub BackwardMayIsReversed : Type 0
BackwardMayIsReversed =
    (shape : Shape) (transfer : Transfer) (point : ℕ) → IsWellFormed shape
    → IsInSolution (reversed_shape shape) (reversed_transfer transfer) point ↔ SomeBackwardPathHas shape transfer point

-- and those of a must problem, by the complement of its reversal.
abbrev pub BackwardMustIsReversedComplement : Type 0
BackwardMustIsReversedComplement =
    (shape : Shape) (transfer : Transfer) (point : ℕ) → IsWellFormed shape
    → (¬ (IsInSolution (reversed_shape shape) (complemented_transfer (reversed_transfer transfer)) point))
    ↔ EveryBackwardPathHas shape transfer point

-- The families are closed under their clauses.
abbrev pub SolutionIsClosed : Type 0
SolutionIsClosed =
    (shape : Shape) (transfer : Transfer)
    → IsClosedReached shape (Reached shape)
    × IsClosedPreserved shape transfer.kill (Reached shape) (Preserved shape transfer.kill)
    × IsClosedGenerated shape transfer (Reached shape) (Preserved shape transfer.kill) (Generated shape transfer)
    × IsClosedEntered shape (Reached shape) (Entered shape)
    × IsClosedBrought shape transfer (Reached shape) (Preserved shape transfer.kill) (Generated shape transfer) (Entered shape) (Brought shape transfer)

-- the points or procedures that pass a test
abbrev pub Passes : (ℕ → Bool) → ℕ → Type 0
Passes test n = IsTrue (test n)

-- Anything closed under the clauses includes the least solution, told of tests, for each family over those that it needs.
abbrev pub ReachedIsLeast : Type 0
ReachedIsLeast =
    (shape : Shape) (reached : ℕ → Bool) → IsClosedReached shape (Passes reached)
    → (x : ℕ) → Reached shape x → Passes reached x

abbrev pub PreservedIsLeast : Type 0
PreservedIsLeast =
    (shape : Shape) (kill : ℕ → ℕ → Bool) (reached preserved : ℕ → Bool)
    → IsClosedReached shape (Passes reached) → IsClosedPreserved shape kill (Passes reached) (Passes preserved)
    → (x : ℕ) → Preserved shape kill x → Passes preserved x

abbrev pub GeneratedIsLeast : Type 0
GeneratedIsLeast =
    (shape : Shape) (transfer : Transfer) (reached preserved generated : ℕ → Bool)
    → IsClosedReached shape (Passes reached) → IsClosedPreserved shape transfer.kill (Passes reached) (Passes preserved)
    → IsClosedGenerated shape transfer (Passes reached) (Passes preserved) (Passes generated)
    → (x : ℕ) → Generated shape transfer x → Passes generated x

abbrev pub EnteredIsLeast : Type 0
EnteredIsLeast =
    (shape : Shape) (reached entered : ℕ → Bool)
    → IsClosedReached shape (Passes reached) → IsClosedEntered shape (Passes reached) (Passes entered)
    → (procedure : ℕ) → Entered shape procedure → Passes entered procedure

abbrev pub BroughtIsLeast : Type 0
BroughtIsLeast =
    (shape : Shape) (transfer : Transfer) (reached preserved generated entered brought : ℕ → Bool)
    → IsClosedReached shape (Passes reached) → IsClosedPreserved shape transfer.kill (Passes reached) (Passes preserved)
    → IsClosedGenerated shape transfer (Passes reached) (Passes preserved) (Passes generated)
    → IsClosedEntered shape (Passes reached) (Passes entered)
    → IsClosedBrought shape transfer (Passes reached) (Passes preserved) (Passes generated) (Passes entered) (Passes brought)
    → (procedure : ℕ) → Brought shape transfer procedure → Passes brought procedure

-- Bits are apart: the solution at a bit rests on the shape, on the bit's gen and kill at the steps and on its boundary.
abbrev pub BitsAreApart : Type 0
BitsAreApart =
    (shape : Shape) (transfer other : Transfer) (point : ℕ) → AgreesOnSteps shape transfer other
    → IsInSolution shape transfer point ↔ IsInSolution shape other point

-- The least solution is decided at each point: a shape has finitely many edges and procedures.
abbrev pub SolutionIsDecided : Type 0
SolutionIsDecided =
    (shape : Shape) (transfer : Transfer) (point : ℕ)
    → (HasFlag shape point ⊎ (¬ (HasFlag shape point)))
    × (IsInSolution shape transfer point ⊎ (¬ (IsInSolution shape transfer point)))

-- So are the flags and meets, forwards: a bit that is not in a must problem's meet is lacking on some valid path.
abbrev pub MeetsAreDecided : Type 0
MeetsAreDecided =
    (shape : Shape) (transfer : Transfer) (point : ℕ) → IsWellFormed shape
    → (HasPath shape point ⊎ (¬ (HasPath shape point)))
    × (SomePathHas shape transfer point ⊎ (¬ (SomePathHas shape transfer point)))
    × (EveryPathHas shape transfer point
    ⊎ ((path : List Edge) × IsValidPath shape path point × (value_after transfer path transfer.boundary ≡ false)))

-- and backwards.
abbrev pub BackwardMeetsAreDecided : Type 0
BackwardMeetsAreDecided =
    (shape : Shape) (transfer : Transfer) (point : ℕ) → IsWellFormed shape
    → (HasBackwardPath shape point ⊎ (¬ (HasBackwardPath shape point)))
    × (SomeBackwardPathHas shape transfer point ⊎ (¬ (SomeBackwardPathHas shape transfer point)))
    × (EveryBackwardPathHas shape transfer point
    ⊎ ((path : List Edge) × IsBackwardValidPath shape path point × (value_before transfer path transfer.boundary ≡ false)))

-- The tables of a program's four analyses are the least solutions of their may forms, complemented for a must analysis; and so
-- are their flags.
abbrev pub FlagsAreSolutions : Type 0
FlagsAreSolutions =
    (program : Program) (analysis : Analysis) (point : ℕ) → IsSound program
    → HasFlag (may_shape program analysis) point ↔ HasPathAt program analysis point

abbrev pub MayTablesAreSolutions : Type 0
MayTablesAreSolutions =
    (program : Program) (analysis : Analysis) (point bit : ℕ) → IsSound program → is_must analysis ≡ false
    → IsInSolution (may_shape program analysis) (may_transfer program analysis bit) point ↔ IsInTable program analysis point bit

abbrev pub MustTablesAreSolutions : Type 0
MustTablesAreSolutions =
    (program : Program) (analysis : Analysis) (point bit : ℕ) → IsSound program → is_must analysis ≡ true
    → (¬ (IsInSolution (may_shape program analysis) (may_transfer program analysis bit) point)) ↔ IsInTable program analysis point bit

-- The tables are decided at each point and bit: so a bit that is not in a must table is lacking on some valid path.
abbrev pub TablesAreDecided : Type 0
TablesAreDecided =
    (program : Program) (analysis : Analysis) (point bit : ℕ) → IsSound program
    → (HasPathAt program analysis point ⊎ (¬ (HasPathAt program analysis point)))
    × (IsInTable program analysis point bit ⊎ (¬ (IsInTable program analysis point bit)))
