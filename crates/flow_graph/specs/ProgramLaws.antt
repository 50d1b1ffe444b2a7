-- What is proved of the points, edges and problems of every program that can be read.
use Rattle.std.specs.Prelude.{◌≡◌, ◌↔◌, ◌/◌, ◌%◌, ◌^◌, ◌<◌, ◌≤◌, ℕ, suc, Bool, if◌then◌else◌, true, false, length, Contains, Some, None, slice_get}
use Rattle.bit_rows.specs.Words.{has_bit}
use Rattle.tac_program.specs.Programs.{Program}
use Rattle.tac_program.specs.Sound.{IsSound}
use Rattle.flow_graph.specs.Analyses.{shape_of, transfer_of, HasPathAt, IsInTable, is_backward, is_must}
use Rattle.flow_graph.specs.Runs.{accesses_of, IsDoubtful, ReadsBeforeWriting, CallsReturn, IsLiveness}
use Rattle.flow_graph.specs.Problems.{may_shape, may_transfer, IsWordOfTest, MayForm, may_gens, may_kills, may_boundary}
use Rattle.flow_graph.specs.Edges.{edges, edges_from}
use Rattle.flow_graph.specs.Paths.{Edge, Call, Ret, source_of, target_of, HasPath, SomePathHas}
use Rattle.flow_graph.specs.WellFormed.{IsWellFormed}
use Rattle.flow_graph.specs.Points.{point_count, point_of, place_of, end_place, end_point, entry_point, procedure_at}
use Rattle.flow_graph.specs.Universes.{Analysis, Live, Definition, definitions}

-- Each place of a procedure has a point, and the point tells the place.
abbrev pub PlacesHavePoints : Type 0
PlacesHavePoints =
    (program : Program) (procedure place : ℕ) → procedure < length program.procedures → place ≤ end_place program procedure
    → (point_of program procedure place < point_count program)
    × (place_of program (point_of program procedure place) ≡ record { procedure = procedure; place = place })

-- Each point stands at a place of a procedure that is there.
pub record IsPlaceOf (program : Program) (point : ℕ) : Type 0 where
  pub procedure : (place_of program point).procedure < length program.procedures
  pub place : (place_of program point).place ≤ end_place program (place_of program point).procedure
  pub back : point_of program (place_of program point).procedure (place_of program point).place ≡ point

abbrev pub PointsHavePlaces : Type 0
PointsHavePlaces = (program : Program) (point : ℕ) → point < point_count program → IsPlaceOf program point

-- An edge stands among those of the point that it leaves, and leads from a point to a point.
pub record IsPlaced (program : Program) (edge : Edge) : Type 0 where
  pub source : source_of edge < point_count program
  pub target : target_of edge < point_count program
  pub listed : Contains (edges_from program (source_of edge)) edge

abbrev pub EdgesJoinPoints : Type 0
EdgesJoinPoints = (program : Program) → IsSound program → (edge : Edge) → Contains (edges program) edge → IsPlaced program edge

-- The graph of a program is well formed, and so is each of its four may forms: the premise of what is proved of paths.
abbrev pub GraphsAreWellFormed : Type 0
GraphsAreWellFormed = (program : Program) → IsSound program → IsWellFormed (shape_of program)

abbrev pub MayFormsAreWellFormed : Type 0
MayFormsAreWellFormed = (program : Program) (analysis : Analysis) → IsSound program → IsWellFormed (may_shape program analysis)

-- each call has its return
abbrev pub CallsOfProgramsReturn : Type 0
CallsOfProgramsReturn = (program : Program) → IsSound program → CallsReturn (shape_of program)

-- A call returns to the point after its site and to no other; and what returns to a site was called there and nowhere else.
abbrev pub CallsReturnBehindSites : Type 0
CallsReturnBehindSites =
    (program : Program) (site x y z : ℕ) → IsSound program → Contains (edges program) (Call site x y)
    → Contains (edges program) (Ret site (end_point program (procedure_at program y)) z) ↔ (z ≡ suc site)

abbrev pub ReturnsHaveCallsAtSites : Type 0
ReturnsHaveCallsAtSites =
    (program : Program) (site x y z : ℕ) → IsSound program → Contains (edges program) (Ret site x y)
    → Contains (edges program) (Call site z (entry_point program (procedure_at program x))) ↔ (z ≡ site)

-- live variables are those that some backward valid path reads before writing
abbrev pub LiveIsLiveness : Type 0
LiveIsLiveness =
    (program : Program) (variable : ℕ) → IsSound program
    → IsLiveness (shape_of program) (transfer_of program Live variable) (accesses_of program variable)

-- The table of each analysis is the meet of its may form, for a must analysis its complement; and so are the flags.
abbrev pub FlagsAreMayForms : Type 0
FlagsAreMayForms =
    (program : Program) (analysis : Analysis) (point : ℕ)
    → HasPathAt program analysis point ↔ HasPath (may_shape program analysis) point

abbrev pub MayTablesAreMayForms : Type 0
MayTablesAreMayForms =
    (program : Program) (analysis : Analysis) (point bit : ℕ) → is_must analysis ≡ false
    → IsInTable program analysis point bit ↔ SomePathHas (may_shape program analysis) (may_transfer program analysis bit) point

abbrev pub MustTablesAreMayForms : Type 0
MustTablesAreMayForms =
    (program : Program) (analysis : Analysis) (point bit : ℕ) → is_must analysis ≡ true
    → IsInTable program analysis point bit ↔ (¬ (SomePathHas (may_shape program analysis) (may_transfer program analysis bit) point))

-- Where a point is not doubtful and a variable is not live there, no run from it, finished or not, reads the variable before
-- writing it.
abbrev pub DeadVariablesAreSafe : Type 0
DeadVariablesAreSafe =
    (program : Program) (point variable : ℕ) → IsSound program
    → ¬ (IsDoubtful (shape_of program) point) → ¬ (IsInTable program Live point variable)
    → ¬ (ReadsBeforeWriting (shape_of program) (accesses_of program variable) point)

-- A step has, in the may form, the gen and kill of the statement at its beginning, or at its end where the edges are reversed.
abbrev pub StepsHaveStatements : Type 0
StepsHaveStatements =
    (form : MayForm) (x y bit : ℕ)
    → ((may_transfer form.program form.analysis bit).gen x y ≡ may_gens form (if is_backward form.analysis then y else x) bit)
    × ((may_transfer form.program form.analysis bit).kill x y ≡ may_kills form (if is_backward form.analysis then y else x) bit)
    × ((may_transfer form.program form.analysis bit).boundary ≡ may_boundary form bit)

-- The definition of a variable's number is its dummy: the value that it has at the program's beginning.
abbrev pub DummiesComeFirst : Type 0
DummiesComeFirst =
    (program : Program) (variable : ℕ) → variable < length program.variable_names
    → slice_get (definitions program) variable ≡ Some (let dummy : Definition = (variable, None) in dummy)

-- A word of a set tells each bit of it that is there, and is told by them.
abbrev pub WordsTellBits : Type 0
WordsTellBits = (test : ℕ → Bool) (bits bit value : ℕ) → bit < bits → IsWordOfTest test bits (bit / 64) value → has_bit value (bit % 64) ≡ test bit

abbrev pub WordsAreTheirBits : Type 0
WordsAreTheirBits =
    (test : ℕ → Bool) (bits word value other : ℕ) → value < 2 ^ 64 → other < 2 ^ 64
    → IsWordOfTest test bits word value → IsWordOfTest test bits word other → value ≡ other
