-- What joins bounds of the least solution to it.
use Rattle.std.specs.Prelude.{◌≡◌, ◌↔◌, ℕ, Bool, true, Some, List, slice_get, ◌&&◌, ◌||◌, nat_eq}
use Rattle.flow_graph.specs.Paths.{Shape, Transfer}
use Rattle.flow_graph.specs.Problems.{MayForm, may_shape, may_transfer}
use Rattle.flow_graph.specs.Reversals.{reversed_shape, reversed_transfer}
use Rattle.flow_graph.specs.WellFormed.{IsWellFormed}
use Rattle.summary_equations.specs.Equations.{Reached, Preserved, Generated, Entered, Brought, IsInSolution, IsClosedReached, IsClosedPreserved}
use Rattle.summary_equations.specs.Equations.{IsClosedGenerated, IsClosedEntered, IsClosedBrought}
use Rattle.summary_equations.specs.Laws.{Passes}
use Rattle.solution_bounds.specs.Bounds.{Values, is_in_values, IsUpperBound, IsLowerBound, AreClosed}
use Rattle.solution_bounds.specs.Pieces.{Summary, Rows, IsPiece, IsSummary, HasPieces, summary_of}
use Rattle.solution_bounds.specs.Quotients.{Quotient, values_of, preserved_by, generated_by, brought_by, IsInside, IsQuotientBound}
use Rattle.solution_bounds.specs.Selections.{Choice, IsSelection, IsSelectionOfBits}
use Rattle.solution_bounds.specs.Turns.{IsReturnTree}
use Rattle.solution_bounds.specs.Witnesses.{Way, PreservesThrough, HaveWaysThrough, IsTree, Ranks, AreJustified}

-- Values that are closed under the clauses lie above the least solution.
abbrev pub ClosedValuesAreAbove : Type 0
ClosedValuesAreAbove =
    (shape : Shape) (transfer : Transfer) (values : Values) → AreClosed shape transfer values → IsUpperBound shape transfer values

-- So the solution has no bit at a point that values above lack there, and has each that values below have.
abbrev pub PointsAreBounded : Type 0
PointsAreBounded =
    (shape : Shape) (transfer : Transfer) (values : Values) (point : ℕ)
    → (IsUpperBound shape transfer values → IsInSolution shape transfer point → Passes (is_in_values shape values) point)
    × (IsLowerBound shape transfer values → Passes (is_in_values shape values) point → IsInSolution shape transfer point)

-- A point at which both bounds agree is settled: they have the bit there exactly where the solution does.
abbrev pub AgreeingBoundsAreExact : Type 0
AgreeingBoundsAreExact =
    (shape : Shape) (transfer : Transfer) (lower upper : Values) (point : ℕ)
    → IsLowerBound shape transfer lower → IsUpperBound shape transfer upper
    → is_in_values shape lower point ≡ is_in_values shape upper point
    → (Passes (is_in_values shape lower) point ↔ IsInSolution shape transfer point)

-- The values of a quotient that meets its conditions are closed at all points and procedures,
abbrev pub QuotientsAreClosed : Type 0
QuotientsAreClosed =
    (shape : Shape) (transfer : Transfer) (reached entered : ℕ → Bool) (quotient : Quotient)
    → IsWellFormed shape → IsQuotientBound shape transfer (Passes reached) (Passes entered) quotient
    → IsClosedPreserved shape transfer.kill (Passes reached) (Passes (preserved_by shape quotient))
    × IsClosedGenerated shape transfer (Passes reached) (Passes (preserved_by shape quotient)) (Passes (generated_by shape quotient))
    × IsClosedBrought shape transfer (Passes reached) (Passes (preserved_by shape quotient)) (Passes (generated_by shape quotient)) (Passes entered)
    (Passes (brought_by quotient))

-- so they lie above the least solution,
abbrev pub QuotientsAreAbove : Type 0
QuotientsAreAbove =
    (shape : Shape) (transfer : Transfer) (reached entered : ℕ → Bool) (quotient : Quotient)
    → IsWellFormed shape → IsClosedReached shape (Passes reached) → IsClosedEntered shape (Passes reached) (Passes entered)
    → IsQuotientBound shape transfer (Passes reached) (Passes entered) quotient
    → IsUpperBound shape transfer (values_of shape reached entered quotient)

-- and where it is known exactly what is reached and entered, a bit of the solution at a point inside passes there.
abbrev pub QuotientsBoundPoints : Type 0
QuotientsBoundPoints =
    (shape : Shape) (transfer : Transfer) (quotient : Quotient) (point : ℕ)
    → IsWellFormed shape → IsQuotientBound shape transfer (Reached shape) (Entered shape) quotient → IsInside shape quotient point
    → IsInSolution shape transfer point
    → (quotient.generated point || (quotient.brought (shape.procedure_of point) && quotient.preserved point)) ≡ true

-- The same by a summary and pieces: whatever values of the point's procedure fit the summary bound the solution there.
abbrev pub PiecesBoundPoints : Type 0
PiecesBoundPoints =
    (shape : Shape) (transfer : Transfer) (summary : Summary) (rows : Rows) (point : ℕ)
    → IsWellFormed shape → IsSummary shape transfer (Reached shape) (Entered shape) summary
    → HasPieces shape transfer (Reached shape) (Entered shape) summary
    → Passes summary.inside (shape.procedure_of point)
    → IsPiece shape transfer (Reached shape) (Entered shape) summary (shape.procedure_of point) rows
    → IsInSolution shape transfer point
    → (rows.generated point || (summary.brought (shape.procedure_of point) && rows.preserved point)) ≡ true

-- No bound is lost: each quotient that meets its conditions has a summary with pieces.
abbrev pub QuotientsHavePieces : Type 0
QuotientsHavePieces =
    (shape : Shape) (transfer : Transfer) (reached entered : ℕ → Bool) (quotient : Quotient)
    → IsQuotientBound shape transfer (Passes reached) (Passes entered) quotient
    → IsSummary shape transfer (Passes reached) (Passes entered) (summary_of shape quotient)
    × HasPieces shape transfer (Passes reached) (Passes entered) (summary_of shape quotient)

-- What is reached, preserved or generated at a point is so behind a way that begins there.
abbrev pub WaysCarry : Type 0
WaysCarry =
    (shape : Shape) (transfer : Transfer) (through : ℕ → Bool) (start point : ℕ)
    → PreservesThrough shape transfer.kill through → Way shape transfer.kill through start point
    → (Reached shape start → Reached shape point)
    × (Preserved shape transfer.kill start → Preserved shape transfer.kill point)
    × (Generated shape transfer start → Generated shape transfer point)

-- Procedures with ways through them preserve the bit at their exits.
abbrev pub WaysPreserve : Type 0
WaysPreserve =
    (shape : Shape) (kill : ℕ → ℕ → Bool) (through : ℕ → Bool) (rank : ℕ → ℕ)
    → HaveWaysThrough shape kill through rank → PreservesThrough shape kill through

-- A way of the reversed problem is a way, read from its end; so ways through procedures serve both directions.
abbrev pub WaysReverse : Type 0
WaysReverse =
    (shape : Shape) (transfer : Transfer) (through : ℕ → Bool) (rank : ℕ → ℕ)
    → ((start finish : ℕ) → Way (reversed_shape shape) (reversed_transfer transfer).kill through start finish
    → Way shape transfer.kill through finish start)
    × (HaveWaysThrough (reversed_shape shape) (reversed_transfer transfer).kill through rank → HaveWaysThrough shape transfer.kill through rank)

-- Procedures of a tree of calls are entered, and the bit is brought to them.
abbrev pub TreesBring : Type 0
TreesBring =
    (shape : Shape) (transfer : Transfer) (through generated tree : ℕ → Bool) (rank : ℕ → ℕ)
    → IsWellFormed shape → PreservesThrough shape transfer.kill through
    → ((x : ℕ) → Passes generated x → Generated shape transfer x)
    → IsTree shape transfer through generated tree rank
    → (procedure : ℕ) → Passes tree procedure → Entered shape procedure × Brought shape transfer procedure

-- So the bit is in the set of each point of such a procedure to which a way leads from the entry.
abbrev pub TreesReachPoints : Type 0
TreesReachPoints =
    (shape : Shape) (transfer : Transfer) (through generated tree : ℕ → Bool) (rank : ℕ → ℕ) (point : ℕ)
    → IsWellFormed shape → PreservesThrough shape transfer.kill through
    → ((x : ℕ) → Passes generated x → Generated shape transfer x)
    → IsTree shape transfer through generated tree rank
    → Passes tree (shape.procedure_of point) → Way shape transfer.kill through (shape.entry (shape.procedure_of point)) point
    → IsInSolution shape transfer point

-- What a procedure of a tree of returns generates is generated at the tree's point,
abbrev pub ReturnTreesCarry : Type 0
ReturnTreesCarry =
    (shape : Shape) (transfer : Transfer) (through : ℕ → Bool) (point : ℕ) (tree : ℕ → Bool) (rank : ℕ → ℕ)
    → PreservesThrough shape transfer.kill through → IsReturnTree shape transfer.kill through point tree rank
    → (procedure : ℕ) → Passes tree procedure → Generated shape transfer (shape.exit procedure) → Generated shape transfer point

-- and so brought to each procedure of a tree of calls that hangs by a way from this point.
abbrev pub TurnsBring : Type 0
TurnsBring =
    (shape : Shape) (transfer : Transfer) (through : ℕ → Bool) (point : ℕ) (returning : ℕ → Bool) (returning_rank : ℕ → ℕ) (tree : ℕ → Bool) (rank : ℕ → ℕ)
    → IsWellFormed shape → PreservesThrough shape transfer.kill through
    → IsReturnTree shape transfer.kill through point returning returning_rank → IsTree shape transfer through (nat_eq point) tree rank
    → (source procedure : ℕ) → Passes returning source → Generated shape transfer (shape.exit source) → Passes tree procedure
    → Brought shape transfer procedure

-- Values that follow one from another lie below the least solution.
abbrev pub JustifiedValuesAreBelow : Type 0
JustifiedValuesAreBelow =
    (shape : Shape) (transfer : Transfer) (through tree : ℕ → Bool) (ranks : Ranks) (values : Values)
    → PreservesThrough shape transfer.kill through → ((procedure : ℕ) → Passes tree procedure → Brought shape transfer procedure)
    → AreJustified shape transfer through tree ranks values → IsLowerBound shape transfer values

-- Chosen bits that are solved side by side have each its own solution.
abbrev pub SelectionsAreSolved : Type 0
SelectionsAreSolved =
    (shape : Shape) (chosen : List Transfer) (packed : ℕ → Transfer) (place : ℕ) (transfer : Transfer) (point : ℕ)
    → IsSelection shape chosen packed → slice_get chosen place ≡ Some transfer
    → IsInSolution shape (packed place) point ↔ IsInSolution shape transfer point

-- Bits of any analyses of a program that have one direction: what is found at a place is the solution of the chosen bit's may form.
abbrev pub SelectedBitsAreSolved : Type 0
SelectedBitsAreSolved =
    (form : MayForm) (chosen : List Choice) (packed : ℕ → Transfer) (place : ℕ) (choice : Choice) (point : ℕ)
    → IsSelectionOfBits form chosen packed → slice_get chosen place ≡ Some choice
    → IsInSolution (may_shape form.program form.analysis) (packed place) point
    ↔ IsInSolution (may_shape form.program choice.analysis) (may_transfer form.program choice.analysis choice.bit) point
