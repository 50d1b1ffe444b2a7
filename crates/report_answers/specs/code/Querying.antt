-- Queries that are put behind others.
use Rattle.std.specs.Prelude.{◌≡◌, ◌⊎◌, ℕ, ◌+◌, ◌≤◌, true, List, [], ◌∷◌, ◌++◌, Some, length, slice_get}
use Rattle.std.specs.List.{list_any}
use Rattle.flow_graph.specs.Transfers.{names_variable, operands_of}
use Rattle.flow_graph.specs.Universes.{evaluated_at}
use Rattle.flow_graph.specs.declared.analysis.Analysis.TheVariants.{Reach, Live, Avail}
use Rattle.flow_queries.specs.Queries.{AreQueriesOf}
use Rattle.flow_queries.specs.declared.query.Query.{Query}
use Rattle.report_answers.specs.Statements.{assigned, is_test}
use Rattle.report_answers.specs.code.Operands.{AreRead}
use Rattle.report_answers.specs.code.Chosen.{AsksOnly, wanted_query}
use Rattle.report_answers.specs.declared.chosen_bits.ChosenBits.{ChosenBits}
use Rattle.tac_program.specs.Programs.{Program}
use Rattle.tac_program.specs.declared.program.StmtKind.{StmtKind}

-- At most so many queries came behind those that were there; each of them is of the program, and asks for what is wanted alone, if the others do.
pub record Queries (chosen : ChosenBits) (program : Program) (old new : List Query) (most : ℕ) : Type 0 where
  pub kept : (q : ℕ) (query : Query) → slice_get old q ≡ Some query → slice_get new q ≡ Some query
  pub of : AreQueriesOf program old → AreQueriesOf program new
  pub only : AsksOnly chosen old → AsksOnly chosen new
  pub count : length new ≤ length old + most

-- From a place on stand the queries for the variables that a statement reads, in order, and none is left out; where one is not wanted, a query
-- for no bit stands there,
pub record QueriesReads (chosen : ChosenBits) (queries : List Query) (place point : ℕ) (kind : StmtKind) : Type 0 where
  pub each : (variables : List ℕ) → AreRead kind variables → (i variable : ℕ) → slice_get variables i ≡ Some variable
      → slice_get queries (place + i) ≡ Some (wanted_query chosen Reach point variable)
  pub all : (variable : ℕ) → list_any (names_variable variable) (operands_of kind) ≡ true
      → (q : ℕ) × (slice_get queries q ≡ Some (wanted_query chosen Reach point variable))

-- at a place the one for the expression that it evaluates,
abbrev pub QueriesEvaluated : ChosenBits → Program → List Query → ℕ → ℕ → Type 0
QueriesEvaluated chosen program queries place point =
    (bit : ℕ) → evaluated_at program point ≡ Some bit → slice_get queries place ≡ Some (wanted_query chosen Avail point bit)

-- the one for the variable that it assigns,
abbrev pub QueriesAssigned : ChosenBits → List Query → ℕ → ℕ → StmtKind → Type 0
QueriesAssigned chosen queries place point kind =
    (variable : ℕ) → assigned kind ≡ Some variable → slice_get queries place ≡ Some (wanted_query chosen Live (point + 1) variable)

-- and a test is one of the tests.
abbrev pub IsAmongTests : List ℕ → ℕ → ℕ → StmtKind → Type 0
IsAmongTests tests number point kind = is_test kind ≡ true → slice_get tests number ≡ Some point

-- The point came behind the others, or nothing did.
abbrev pub PutsPoint : List ℕ → List ℕ → ℕ → Type 0
PutsPoint old new point = (new ≡ old) ⊎ (new ≡ old ++ point ∷ [])
