-- Which bits of the analyses are asked, by whole words.
use Rattle.std.specs.Prelude.{◌≡◌, ◌⊎◌, ℕ, ◌/◌, ◌&&◌, Bool, true, if◌then◌else◌, List, Some, nat_le, nat_lt, slice_get}
use Rattle.flow_graph.specs.declared.analysis.Analysis.{Analysis}
use Rattle.flow_graph.specs.declared.analysis.Analysis.TheVariants.{Reach, Live, Avail, Busy}
use Rattle.flow_queries.specs.declared.query.Query.{Query}
use Rattle.report_answers.specs.code.Answered.{query_for}
use Rattle.report_answers.specs.declared.chosen_bits.ChosenBits.{ChosenBits}
use Rattle.report_answers.specs.declared.chosen_bits.ChosenBits.TheVariants as choice
use Rattle.report_answers.specs.declared.chosen_bits.WordRange.{WordRange}

abbrev pub is_within : WordRange → ℕ → Bool
is_within range word = nat_le range.first word && nat_lt word range.end

-- the words of an analysis: values at the beginning have the numbers of their variables among the definitions
abbrev pub range_of : (variables expressions : WordRange) → Analysis → WordRange
range_of variables expressions Reach = variables
range_of variables expressions Live = variables
range_of variables expressions Avail = expressions
range_of variables expressions Busy = expressions

-- whether the bits of a word are asked
abbrev pub wants_word : ChosenBits → Analysis → ℕ → Bool
wants_word choice.All analysis word = true
wants_word (choice.Words variables expressions) analysis word = is_within (range_of variables expressions analysis) word

abbrev pub wants : ChosenBits → Analysis → ℕ → Bool
wants chosen analysis bit = wants_word chosen analysis (bit / 64)

-- the query for no bit of a point
abbrev pub blank_query : Analysis → ℕ → Query
blank_query analysis point = record { analysis = analysis; point = point; word = 0; bits = 0 }

-- the query for a bit of the set of a point, or for none where the bit is not wanted
abbrev pub wanted_query : ChosenBits → Analysis → ℕ → ℕ → Query
wanted_query chosen analysis point bit = if wants chosen analysis bit then query_for analysis point bit else blank_query analysis point

-- The query asks for no bit, or for bits of a word that is wanted.
abbrev pub IsWanted : ChosenBits → Query → Type 0
IsWanted chosen query = (query.bits ≡ 0) ⊎ (wants_word chosen query.analysis query.word ≡ true)

-- No query asks for other bits.
abbrev pub AsksOnly : ChosenBits → List Query → Type 0
AsksOnly chosen queries = (q : ℕ) (query : Query) → slice_get queries q ≡ Some query → IsWanted chosen query
