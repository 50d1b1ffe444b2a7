-- How the code's tables stand for what is shown.
use Rattle.std.specs.Prelude.{◌≡◌, ℕ, ◌-◌, ◌<◌, ◌≤◌, Bool, false, ◌&&◌, if◌then◌else◌, nat_le, nat_lt, List, Option, Some, None, get_or, map}
use Rattle.std.specs.Prelude.{length, IfSome}
use Rattle.std.specs.List.{range_with_len}
use Rattle.smallvec.specs.SmallVec.{SmallVec}
use Rattle.flow_graph.specs.Edges.{edges_from}
use Rattle.flow_graph.specs.Points.{point_count, points}
use Rattle.flow_graph.specs.Universes.{bits}
use Rattle.flow_graph.specs.declared.analysis.Analysis.TheVariants.{Reach, Live, Avail, Busy}
use Rattle.flow_graph.specs.declared.edge.Edge.{Edge}
use Rattle.flow_graph.specs.declared.edge.Edge.TheVariants.{Step, Call, Ret}
use Rattle.flow_team.specs.Tables.{Facts, TableFacts, facts_of}
use Rattle.flow_reports.specs.Reports.{Knowledge}
use Rattle.flow_reports.specs.code.Findings.{AreFindings, TellDoubtful, knowledge_of}
use Rattle.tac_program.specs.Programs.{Program}
use Rattle.flow_views.specs.code.Names.{AreNames}
use Rattle.flow_views.specs.declared.view_program.Numbers.{Numbers}
use Rattle.flow_views.specs.ViewTables.{AreViewTables, shown_table}
use Rattle.flow_views.specs.Views.{end_shown, first_shown, known_facts}
use Rattle.flow_views.specs.declared.view_program.ViewProgram.{ViewProgram}

-- the edges that a table holds for each point
abbrev pub contents : List (SmallVec Edge) → List (List Edge)
contents lists = map (λ list. list.items) lists

-- numbers from the first on and before the end
abbrev pub numbers_of : Numbers → List ℕ
numbers_of numbers = range_with_len numbers.first (numbers.end - numbers.first)

-- whether a point is one from the first on and before another
abbrev pub is_between : ℕ → ℕ → ℕ → Bool
is_between from until point = nat_le from point && nat_lt point until

-- the facts of a table at these points, and others at all others
abbrev pub facts_between : ℕ → ℕ → Facts → Facts → Facts
facts_between from until these others = record {
  has_path = λ point. if is_between from until point then these.has_path point else others.has_path point;
  contains = λ point bit. if is_between from until point then these.contains point bit else others.contains point bit;
}

-- the facts of a table at these points, and where there is none others
abbrev pub facts_or : ℕ → ℕ → Facts → Option TableFacts → Facts
facts_or from until facts None = facts
facts_or from until facts (Some table) = facts_between from until (facts_of table) facts

-- facts of which a table is known, at the points that are shown
abbrev pub known_by : ViewProgram → Facts → Option TableFacts → Facts
known_by shown facts table =
    facts_or (first_shown shown.found.graph.now shown.view.procedure) (end_shown shown.found.graph.now shown.view.procedure) facts table

-- what is known of a program by its tables, by what a report asks where there is none, and by its doubtful points
abbrev pub known_of : ViewProgram → Knowledge
known_of shown = record {
  reach = known_by shown (knowledge_of shown.found).reach (shown_table shown.tables.now Reach);
  live = known_by shown (knowledge_of shown.found).live (shown_table shown.tables.now Live);
  avail = known_by shown (knowledge_of shown.found).avail (shown_table shown.tables.now Avail);
  busy = known_by shown (knowledge_of shown.found).busy (shown_table shown.tables.now Busy);
  doubtful = λ point. get_or shown.found.doubtful.items point false;
}

-- What was found is of one program, whose doubtful points and tables are told, the names are those of its bits, the edges are those out of each
-- point, and the procedure that is shown is there.
pub record AreShown (shown : ViewProgram) : Type 0 where
  pub found : AreFindings shown.found
  pub doubts : TellDoubtful shown.found.graph.now shown.found.doubtful.items
  pub tables : AreViewTables shown.found.graph.now shown.view shown.tables.now
  pub names : AreNames shown.found.graph.now shown.names
  pub successors : contents shown.successors.items ≡ map (edges_from shown.found.graph.now) (points shown.found.graph.now)
  pub procedure : IfSome shown.view.procedure (λ procedure. procedure < length shown.found.graph.now.procedures)

-- The point is one of those that are shown.
abbrev pub IsShownPoint : ViewProgram → ℕ → Type 0
IsShownPoint shown point =
    (first_shown shown.found.graph.now shown.view.procedure ≤ point) × (point < end_shown shown.found.graph.now shown.view.procedure)

-- The procedure is one of those that are shown.
abbrev pub IsShownProcedure : Option ℕ → ℕ → Type 0
IsShownProcedure (Some procedure) number = number ≡ procedure
IsShownProcedure None number = Unit {0}

-- Procedures from one on and before another are among them.
abbrev pub AreShownProcedures : Option ℕ → Numbers → Type 0
AreShownProcedures procedure numbers = (number : ℕ) → numbers.first ≤ number → number < numbers.end → IsShownProcedure procedure number

-- The facts tell the same at a point.
pub record TellSame (one other : Facts) (point : ℕ) : Type 0 where
  pub path : one.has_path point ≡ other.has_path point
  pub set : one.contains point ≡ other.contains point

-- The table is one of an analysis of the program, at the points that are shown, where it tells what is known.
pub record IsShownTable (shown : ViewProgram) (table : TableFacts) : Type 0 where
  pub points : length table.paths ≡ end_shown shown.found.graph.now shown.view.procedure
  pub bits : table.bits ≡ bits shown.found.graph.now table.analysis
  pub tells : (point : ℕ) → IsShownPoint shown point → TellSame (facts_of table) (known_facts (known_of shown) table.analysis) point

-- the point from which a step goes, and the call of another edge, are points
abbrev pub IsEndIn : Program → Edge → Type 0
IsEndIn program (Step source target) = source < point_count program
IsEndIn program (Call site source target) = site < point_count program
IsEndIn program (Ret site source target) = site < point_count program
