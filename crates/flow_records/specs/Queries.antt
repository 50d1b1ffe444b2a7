-- Words of the analyses' sets that are asked of a handle's program, by numbers.
use Rattle.std.specs.Prelude.{◌≡◌, ℕ, ◌-◌, ◌<◌, ◌^◌, List, Some, None, length, slice_get, slice_index}
use Rattle.flow_graph.specs.declared.analysis.Analysis.{Analysis}
use Rattle.flow_queries.specs.Queries.{IsAnswerTo, IsQueryOf}
use Rattle.flow_queries.specs.declared.query.Query.{Query}
use Rattle.tac_program.specs.Programs.{Program}
use Rattle.flow_records.specs.Faults.{IsMemoryFault}
use Rattle.flow_records.specs.Numbers.{analysis_of}
use Rattle.flow_records.specs.declared.queries.NumberedQuery.{NumberedQuery}
use Rattle.flow_records.specs.declared.fault.Fault.{Fault}
use Rattle.flow_records.specs.declared.fault.Fault.TheVariants as fault

-- the query of an analysis at the point and the word that are asked for: all bits of the word
abbrev pub query_of : Analysis → NumberedQuery → Query
query_of analysis ask = record { analysis = analysis; point = ask.point; word = ask.word; bits = 2 ^ 64 - 1 }

-- The query is that of the analysis of the asked number, and the program has its point and its word.
pub record IsNumberedQuery (program : Program) (ask : NumberedQuery) (query : Query) : Type 0 where
  pub is_analysis : analysis_of ask.analysis ≡ Some query.analysis
  pub query_is : query ≡ query_of query.analysis ask
  pub is_query : IsQueryOf program query

-- why numbers stand for no query
abbrev pub IsNumberedFault : Program → NumberedQuery → Fault → Type 0
IsNumberedFault program ask fault.BadAnalysis = analysis_of ask.analysis ≡ None
IsNumberedFault program ask fault.BadRange =
    (analysis : Analysis) × (analysis_of ask.analysis ≡ Some analysis) × (¬ (IsQueryOf program (query_of analysis ask)))
IsNumberedFault program ask _ = ⊥

-- The queries are those of the asked numbers, in their order.
pub record AreNumbered (program : Program) (asks : List NumberedQuery) (queries : List Query) : Type 0 where
  pub count : length queries ≡ length asks
  pub each : (q : ℕ) (ask : NumberedQuery) (query : Query) → slice_get asks q ≡ Some ask → slice_get queries q ≡ Some query
      → IsNumberedQuery program ask query

-- A word for each ask, in their order: the answer to its query, which the program has.
pub record AreAnswersTo (program : Program) (asks : List NumberedQuery) (words : List ℕ) : Type 0 where
  pub count : length words ≡ length asks
  pub each : (q : ℕ) (ask : NumberedQuery) → slice_get asks q ≡ Some ask
      → (query : Query) × IsNumberedQuery program ask query × IsAnswerTo program query (slice_index words q)

-- why some ask has no answer: its numbers stand for no query, or memory lacks
abbrev pub IsQueryFault : List NumberedQuery → Program → Fault → Type 0
IsQueryFault asks program fault.BadAnalysis =
    (q : ℕ) × (ask : NumberedQuery) × (slice_get asks q ≡ Some ask) × IsNumberedFault program ask fault.BadAnalysis
IsQueryFault asks program fault.BadRange =
    (q : ℕ) × (ask : NumberedQuery) × (slice_get asks q ≡ Some ask) × IsNumberedFault program ask fault.BadRange
IsQueryFault asks program fault = IsMemoryFault fault

-- why there are no answers in room for so many words
abbrev pub IsQueriesFault : List NumberedQuery → ℕ → Program → Fault → Type 0
IsQueriesFault asks words program fault.BadRoom = ¬ ((words ≡ length asks) × (words < 2 ^ 32))
IsQueriesFault asks words program fault = IsQueryFault asks program fault
