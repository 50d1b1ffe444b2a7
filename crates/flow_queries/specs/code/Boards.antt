-- How queries stand to their board, and how far they are posted.
use Rattle.std.specs.Prelude.{◌≡◌, ℕ, ◌+◌, ◌*◌, ◌/◌, ◌%◌, ◌^◌, ◌<◌, true, false, List, Some, length, map, slice_get, slice_index, slice_index_or}
use Rattle.bit_rows.specs.Words.{has_bit}
use Rattle.flow_graph.specs.declared.analysis.Analysis.TheVariants.{Reach}
use Rattle.flow_links.specs.Shapes.{LinkedProgram}
use Rattle.flow_queries.specs.Queries.{AreQueriesOf, IsAnswerTo}
use Rattle.flow_team.specs.Sets.{IsInColumns}
use Rattle.flow_queries.specs.code.Cuts.{AreApart}
use Rattle.flow_queries.specs.code.Directions.{selection_of}
use Rattle.flow_queries.specs.declared.query.Query.{Query}
use Rattle.slice_board.specs.Boards.{BoardState, board_points}
use Rattle.slice_board.specs.Passes.{IsLogged}
use Rattle.slice_board.specs.declared.view.LoggedWord.{LoggedWord}
use Rattle.tac_program.specs.Programs.{Program}

-- a program, what is asked of it, what of that is left to be solved, the same queries in the order in which they are solved, and the number of
-- each of these
pub record Queried : Type 0 where
  pub program : Program
  pub queries : List Query
  pub left : List Query
  pub order : List Query
  pub places : List ℕ

-- the query that is read where there is none
abbrev pub no_query : Query
no_query = record { analysis = Reach; point = 0; word = 0; bits = 0 }

-- queries in the order of these numbers
abbrev pub ordered : List Query → List ℕ → List Query
ordered queries places = map (λ place. slice_index_or queries place no_query) places

-- Each query stands somewhere in the order, and each of the order is the query of its number.
pub record Arranges (queries order : List Query) (places : List ℕ) : Type 0 where
  pub count : length order ≡ length queries
  pub size : length places ≡ length queries
  pub within : (j : ℕ) → j < length queries → slice_index places j < length queries
  pub each : (j : ℕ) → j < length queries → slice_get order j ≡ slice_get queries (slice_index places j)
  pub all : (q : ℕ) → q < length queries → (j : ℕ) × (j < length queries) × (slice_index places j ≡ q)

-- what is asked of a program, in the order of these numbers, and what of it is left
abbrev pub left_in : Program → List Query → List Query → List ℕ → Queried
left_in program queries left places =
    record { program = program; queries = queries; left = left; order = ordered queries places; places = places }

-- all of it
abbrev pub queried_in : Program → List Query → List ℕ → Queried
queried_in program queries places = left_in program queries queries places

-- What is asked is of the program, also in that order, and its words have numbers.
pub record IsArranged (queried : Queried) : Type 0 where
  pub few : 64 * length queried.queries < 2 ^ 32
  pub queries : AreQueriesOf queried.program queried.queries
  pub order : AreQueriesOf queried.program queried.order
  pub arranged : Arranges queried.queries queried.order queried.places

-- The two directions are those of the program.
pub record AreDirections (program : Program) (forward backward : LinkedProgram) : Type 0 where
  pub is_forward : forward ≡ record { program = program; backward = false }
  pub is_backward : backward ≡ record { program = program; backward = true }

-- What workers publish: the words of the queries one after the other, in their order, as the row of one point. Of each word those bits are
-- wanted that are asked and in the may form's set at the query's point.
pub record IsWanted (queried : Queried) (point bit : ℕ) : Type 0 where
  pub only : point ≡ 0
  pub query : Query
  pub there : slice_get queried.order (bit / 64) ≡ Some query
  pub asked : has_bit query.bits (bit % 64) ≡ true
  pub some : IsInColumns (selection_of queried.program query.analysis) query.point (64 * query.word + bit % 64)

-- The board wants what is asked: it has one point, a word for each query, and slices of queries of one analysis.
pub record IsQueryBoard (queried : Queried) (board : BoardState Queried) : Type 0 where
  pub wanted : board.wanted ≡ queried
  pub one : board_points board ≡ 1
  pub words : board.cut.bits ≡ 64 * length queried.order
  pub apart : AreApart queried.order board.cut

-- What is wanted of the queries that are done is posted.
abbrev pub AreDone : Queried → (ℕ → Type 0) → List LoggedWord → Type 0
AreDone queried done posted = (bit : ℕ) → IsWanted queried 0 bit → done (bit / 64) → IsLogged posted 0 bit

-- The queries that are first in the order have their answers.
abbrev pub AreAnswered : Queried → ℕ → List ℕ → Type 0
AreAnswered queried done words = (j : ℕ) (query : Query) → j < done → slice_get queried.queries (slice_index queried.places j) ≡ Some query
    → IsAnswerTo queried.program query (slice_index words (slice_index queried.places j))
