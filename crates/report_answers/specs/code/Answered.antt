-- What answers tell of the facts, where they were asked for.
use Rattle.std.specs.Prelude.{ℕ, ◌/◌, ◌%◌, ◌^◌, ◌&&◌, Bool, true, false, if◌then◌else◌, List, [], ◌∷◌, nat_eq, slice_index_or}
use Rattle.bit_rows.specs.Words.{has_bit}
use Rattle.flow_graph.specs.declared.analysis.Analysis.{Analysis}
use Rattle.flow_graph.specs.declared.analysis.Analysis.TheVariants.{Reach, Live, Avail, Busy}
use Rattle.flow_queries.specs.Queries.{Replies, flags_of}
use Rattle.flow_team.specs.Tables.{Facts}
use Rattle.flow_queries.specs.declared.query.Query.{Query}

abbrev pub is_analysis : Analysis → Analysis → Bool
is_analysis Reach Reach = true
is_analysis Live Live = true
is_analysis Avail Avail = true
is_analysis Busy Busy = true
is_analysis _ _ = false

abbrev pub is_query : Query → Query → Bool
is_query one other = is_analysis one.analysis other.analysis && nat_eq one.point other.point && nat_eq one.word other.word && nat_eq one.bits other.bits

-- the word that stands beside a query, or 0 where it is not asked
abbrev pub answer_in : List Query → List ℕ → Query → ℕ
answer_in [] words query = 0
answer_in (one ∷ queries) [] query = 0
answer_in (one ∷ queries) (word ∷ words) query = if is_query one query then word else answer_in queries words query

-- the query for a bit of the set of a point
abbrev pub query_for : Analysis → ℕ → ℕ → Query
query_for analysis point bit = record { analysis = analysis; point = point; word = bit / 64; bits = 2 ^ (bit % 64) }

-- the facts of an analysis, as far as they were asked for
abbrev pub facts_in : Replies → Analysis → Facts
facts_in replies analysis = record {
  has_path = λ point. slice_index_or (flags_of replies analysis) point false;
  contains = λ point bit. has_bit (answer_in replies.queries replies.words (query_for analysis point bit)) (bit % 64);
}
