-- The tables of what is shown.
use Rattle.std.specs.Prelude.{◌≡◌, ℕ, Bool, List, Option, None, IfSome, is_some, slice_index_or}
use Rattle.flow_graph.specs.AnalysisNumbers.{analysis_number}
use Rattle.flow_graph.specs.declared.analysis.Analysis.{Analysis}
use Rattle.flow_team.specs.Excerpts.{IsTableAt}
use Rattle.flow_team.specs.Tables.{TableFacts}
use Rattle.flow_views.specs.Views.{is_chosen, end_shown, first_shown}
use Rattle.flow_views.specs.declared.view.View.{View}
use Rattle.tac_program.specs.Programs.{Program}

-- There is a table exactly where the analysis is chosen, and it is this program's table of that analysis, at the points from one on and before
-- another.
pub record IsTableIfChosen (program : Program) (analysis : Analysis) (from until : ℕ) (chosen : Bool) (table : Option TableFacts) : Type 0 where
  pub there : is_some table ≡ chosen
  pub of : IfSome table (λ t. (t.analysis ≡ analysis) × IsTableAt program from until t)

-- It is so of an analysis, at the points that are shown.
abbrev pub IsTableShown : Program → Analysis → Option ℕ → Bool → Option TableFacts → Type 0
IsTableShown program analysis procedure chosen table =
    IsTableIfChosen program analysis (first_shown program procedure) (end_shown program procedure) chosen table

-- the table of an analysis, where there is one: they stand in the order of the analyses' numbers
abbrev pub shown_table : List (Option TableFacts) → Analysis → Option TableFacts
shown_table tables analysis = slice_index_or tables (analysis_number analysis) None

-- It is so of each analysis.
abbrev pub AreViewTables : Program → View → List (Option TableFacts) → Type 0
AreViewTables program view tables =
    (analysis : Analysis) → IsTableShown program analysis view.procedure (is_chosen view.facts analysis) (shown_table tables analysis)
