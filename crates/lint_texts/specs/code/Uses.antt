-- How uses of variables and ways to them are kept.
use Rattle.std.specs.Prelude.{◌≡◌, ◌<◌, ◌≤◌, ℕ, suc, List, [], ◌∷◌, ◌++◌, All, Option, Some, None, length, map, slice_get, slice_index, slice_index_or, true}
use Rattle.flow_graph.specs.Analyses.{shape_of, transfer_of}
use Rattle.flow_graph.specs.Paths.{Shape, SomePathHas, Transfer}
use Rattle.flow_graph.specs.Points.{point_count}
use Rattle.flow_graph.specs.declared.analysis.Analysis.TheVariants.{Reach}
use Rattle.flow_why.specs.Witnesses.{IsWitness}
use Rattle.flow_why.specs.declared.hop.Hop.{Hop}
use Rattle.lint_texts.specs.LintTexts.{AreTurnsTo, Turns, is_turn, turns_told}
use Rattle.lint_texts.specs.declared.uses.Use.{Use}
use Rattle.lint_texts.specs.declared.uses.Uses.{Uses}
use Rattle.lint_texts.specs.declared.ways.Way.{Way}
use Rattle.tac_program.specs.Programs.{Program}

-- From the use of a number on, these are the points of the uses that are linked; each names one that was put before it.
pub data Follow (uses : List Use) : ℕ → List ℕ → Type 0 where
  ended : Follow uses 0 []
  linked : (place : ℕ) (one : Use) (points : List ℕ) → slice_get uses place ≡ Some one → one.next ≤ place → Follow uses one.next points
      → Follow uses (suc place) (one.point ∷ points)

-- It is the first of some points that are followed from a number on, if there is one.
abbrev pub IsNext : List Use → ℕ → List ℕ → Option Use → Type 0
IsNext uses number points None = points ≡ []
IsNext uses number points (Some one) = (later : List ℕ) × (one.next < number) × (points ≡ one.point ∷ later) × Follow uses one.next later

-- Of each variable these are the points.
abbrev pub TellUses : Uses → (ℕ → List ℕ) → Type 0
TellUses uses told = (variable : ℕ) → Follow uses.uses.items (slice_index uses.heads.items variable) (told variable)

-- The program has the variable and the point, and some valid path brings the variable's value at the beginning there.
pub record IsUnsetAt (program : Program) (variable point : ℕ) : Type 0 where
  pub named : variable < length program.variable_names
  pub placed : point < point_count program
  pub reaches : SomePathHas (shape_of program) (transfer_of program Reach variable) point

-- The first use of each variable is such a point.
pub record AreUnset (program : Program) (uses : Uses) : Type 0 where
  pub told : ℕ → List ℕ
  pub tell : TellUses uses told
  pub unset : (variable first : ℕ) (later : List ℕ) → told variable ≡ first ∷ later → IsUnsetAt program variable first

-- They are the turns of a witness of a bit at a point.
pub record IsTold (program : Program) (shape : Shape) (transfer : Transfer) (point : ℕ) (way : Turns) : Type 0 where
  pub hops : List Hop
  pub is_witness : IsWitness shape transfer point hops
  pub are_turns : way ≡ turns_told program hops

-- each of them is a turn
abbrev pub AreAllTurns : Program → Turns → Type 0
AreAllTurns program way = All (λ turn. is_turn program turn ≡ true) way.turns

-- They are the turns of a way to the first use of the variable, if it has one.
pub record IsWayOf (program : Program) (uses : Uses) (variable : ℕ) (way : Turns) : Type 0 where
  pub are : AreAllTurns program way
  pub leads : (told : ℕ → List ℕ) → TellUses uses told → (first : ℕ) (later : List ℕ) → told variable ≡ first ∷ later
      → AreTurnsTo program variable first way

-- Some points are followed so far: from this number on those follow that are left, each a point of the program.
pub record IsFollowed (program : Program) (uses : List Use) (points done : List ℕ) (number : ℕ) : Type 0 where
  pub left : List ℕ
  pub all : points ≡ done ++ left
  pub follow : Follow uses number left
  pub placed : All (λ point. point < point_count program) left

-- what is kept of a way, and the way of a variable
abbrev pub turns_of : Way → Turns
turns_of way = record { turns = way.turns.items; left_out = way.left_out }

abbrev pub no_turns : Turns
no_turns = record { turns = []; left_out = 0 }

abbrev pub ways_in : List Way → ℕ → Turns
ways_in ways variable = slice_index_or (map turns_of ways) variable no_turns
