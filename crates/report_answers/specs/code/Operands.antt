-- The variables that a statement reads, as a list.
use Rattle.std.specs.Prelude.{◌≡◌, ℕ, List, [], ◌∷◌, nat_eq}
use Rattle.std.specs.List.{list_any}
use Rattle.std.specs.List.Sorted.{IsStrictlyIncreasing}
use Rattle.flow_graph.specs.Transfers.{names_variable, operands_of}
use Rattle.tac_program.specs.declared.program.StmtKind.{StmtKind}
use Rattle.report_answers.specs.declared.operands.VariablesRead.{VariablesRead}
use Rattle.report_answers.specs.declared.operands.VariablesRead.TheVariants as read

abbrev pub numbers_of : VariablesRead → List ℕ
numbers_of read.None = []
numbers_of (read.One variable) = variable ∷ []
numbers_of (read.Two first second) = first ∷ second ∷ []

-- They are those that a statement reads, in order and each once.
pub record AreRead (kind : StmtKind) (variables : List ℕ) : Type 0 where
  pub rising : IsStrictlyIncreasing variables
  pub read : (variable : ℕ) → list_any (nat_eq variable) variables ≡ list_any (names_variable variable) (operands_of kind)
