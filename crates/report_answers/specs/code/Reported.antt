-- What a report asks of the four analyses, and where its queries stand among all.
use Rattle.std.specs.Prelude.{◌≡◌, ◌+◌, ℕ, ◌-◌, ◌*◌, ◌/◌, ◌%◌, ◌^◌, ◌<◌, ◌≤◌, false, List, Some, length, slice_get, slice_index, slice_index_or, take}
use Rattle.bit_rows.specs.Words.{has_bit}
use Rattle.flow_graph.specs.Points.{kind_at, point_count}
use Rattle.flow_graph.specs.declared.analysis.Analysis.TheVariants.{Busy}
use Rattle.flow_queries.specs.Queries.{AreAnswers, AreQueriesOf, Replies, flags_of}
use Rattle.flow_team.specs.Tables.{Facts}
use Rattle.flow_queries.specs.declared.query.Query.{Query}
use Rattle.report_answers.specs.code.Querying.{QueriesAssigned, QueriesEvaluated, QueriesReads, IsAmongTests}
use Rattle.report_answers.specs.code.Busy.{ArePoints, AreRounds, BusyLists, IsRound, TellBusy, busy_lists, busy_mask}
use Rattle.report_answers.specs.code.Chosen.{AsksOnly}
use Rattle.report_answers.specs.declared.chosen_bits.ChosenBits.{ChosenBits}
use Rattle.report_answers.specs.declared.chosen_bits.ChosenBits.TheVariants as choice
use Rattle.report_answers.specs.declared.report_rounds.FirstRound.{FirstRound}
use Rattle.report_answers.specs.declared.report_rounds.LaterRounds.{LaterRounds}
use Rattle.report_answers.specs.declared.report_queries.PointQueries.{PointQueries}
use Rattle.report_answers.specs.declared.report_queries.ReportQueries.{ReportQueries}
use Rattle.tac_program.specs.Programs.{Program}
use Rattle.tac_program.specs.declared.program.StmtKind.{StmtKind}

-- Of the statement at a point are asked the words of the variables that it reads, of the expression that it evaluates, of the variable
-- that it assigns; of a test all very busy expressions, in rounds. All this as far as it is wanted.
pub record AreQueriedAt (chosen : ChosenBits) (program : Program) (queries : List Query) (tests : List ℕ) (places : PointQueries) (point : ℕ) (kind : StmtKind) : Type 0 where
  pub reads : QueriesReads chosen queries places.reads point kind
  pub evaluated : QueriesEvaluated chosen program queries places.evaluated point
  pub assigned : QueriesAssigned chosen queries places.assigned point kind
  pub test : IsAmongTests tests places.test point kind

-- They are at each point of a list.
abbrev pub AreQueried : ChosenBits → Program → List Query → List ℕ → List PointQueries → Type 0
AreQueried chosen program queries tests places = (point : ℕ) (here : PointQueries) (kind : StmtKind) → slice_get places point ≡ Some here
    → kind_at program point ≡ Some kind → AreQueriedAt chosen program queries tests here point kind

-- What a report asks of a program, as far as it is wanted: at most four words for each statement, of a test fewer, and there are no more tests
-- than points.
pub record AreReportQueries (chosen : ChosenBits) (program : Program) (all : ReportQueries) : Type 0 where
  pub queries : AreQueriesOf program all.queries.items
  pub only : AsksOnly chosen all.queries.items
  pub few : length all.queries.items + length all.tests.items ≤ 4 * (point_count program - 1)
  pub count : length all.places.items ≡ point_count program
  pub queried : AreQueried chosen program all.queries.items all.tests.items all.places.items
  pub points : ArePoints program all.tests.items
  pub tests : length all.tests.items ≤ point_count program

-- which bits are asked, answers to what a report asks of them, the words of tests' sets, and where the queries of each point stand
pub record Reported : Type 0 where
  pub chosen : ChosenBits
  pub replies : Replies
  pub places : List PointQueries
  pub tests : List ℕ
  pub busy : BusyLists

-- They answer what a report on the program asks of the chosen bits, and nothing else was asked.
pub record TellChosen (chosen : ChosenBits) (program : Program) (reported : Reported) : Type 0 where
  pub same_bits : reported.chosen ≡ chosen
  pub few : 64 * length reported.replies.queries < 2 ^ 32
  pub answers : AreAnswers program reported.replies
  pub count : length reported.places ≡ point_count program
  pub queried : AreQueried chosen program reported.replies.queries reported.tests reported.places
  pub only : AsksOnly chosen reported.replies.queries
  pub firsts : length reported.busy.firsts ≡ length reported.tests
  pub busy : TellBusy chosen program reported.tests reported.busy 0

-- They answer what a report on the program asks.
abbrev pub TellReport : Program → Reported → Type 0
TellReport program = TellChosen choice.All program

-- where queries stand of a point that has none
abbrev pub no_places : PointQueries
no_places = record { reads = 0; evaluated = 0; assigned = 0; test = 0 }

-- a word of the very busy expressions of a test
abbrev pub busy_word : Reported → ℕ → ℕ → ℕ
busy_word reported test word = let first = slice_index reported.busy.firsts test in busy_mask reported.busy.words first first word

-- the facts of very busy expressions at tests
abbrev pub busy_facts : Reported → Facts
busy_facts reported = record {
  has_path = λ point. slice_index_or (flags_of reported.replies Busy) point false;
  contains = λ point bit. has_bit (busy_word reported (slice_index_or reported.places point no_places).test (bit / 64)) (bit % 64);
}

-- The first queries are of the program and of the chosen bits: all but of very busy expressions, and behind them a round of these.
pub record IsFirstRoundOf (chosen : ChosenBits) (program : Program) (all : List Query) (first : FirstRound) : Type 0 where
  pub queries : AreQueriesOf program all
  pub only : AsksOnly chosen all
  pub few : 64 * length all < 2 ^ 32
  pub before : (first.before < 2 ^ 26) × (first.before ≤ length all)
  pub count : length first.places.items ≡ point_count program
  pub queried : AreQueried chosen program (take first.before all) first.rounds.tests.items first.places.items
  pub rounds : AreRounds chosen program first.rounds.tests.items first.rounds
  pub round : IsRound program first.rounds all

abbrev pub IsFirstRound : Program → List Query → FirstRound → Type 0
IsFirstRound program = IsFirstRoundOf choice.All program

-- The answers tell a report on the program, as far as it is chosen, but for the rounds that are left.
pub record TellRestOf (chosen : ChosenBits) (program : Program) (known : LaterRounds) : Type 0 where
  pub few : 64 * length known.answers.queries < 2 ^ 32
  pub answers : AreAnswers program known.answers
  pub count : length known.places.items ≡ point_count program
  pub only : AsksOnly chosen known.answers.queries
  pub queried : AreQueried chosen program known.answers.queries known.rounds.tests.items known.places.items
  pub rounds : AreRounds chosen program known.rounds.tests.items known.rounds

abbrev pub TellRest : Program → LaterRounds → Type 0
TellRest program = TellRestOf choice.All program

-- how many words of each test's set the rounds that are left ask for
abbrev pub words_left : LaterRounds → ℕ
words_left known = known.rounds.until - known.rounds.first

-- The queries are those of the next round.
pub record IsNextRoundOf (chosen : ChosenBits) (program : Program) (known : LaterRounds) (all : List Query) : Type 0 where
  pub left : 0 < words_left known
  pub queries : AreQueriesOf program all
  pub only : AsksOnly chosen all
  pub few : 64 * length all < 2 ^ 32
  pub round : IsRound program known.rounds all

abbrev pub IsNextRound : Program → LaterRounds → List Query → Type 0
IsNextRound program = IsNextRoundOf choice.All program

-- what is told where no round is left
abbrev pub reported_of : LaterRounds → Reported
reported_of known = record {
  chosen = known.rounds.chosen;
  replies = known.answers;
  places = known.places.items;
  tests = known.rounds.tests.items;
  busy = busy_lists known.rounds.busy;
}
