-- What the words and flags of a table answer.
use Rattle.std.proofs.Common.{◌≡◌, ◌↔◌, ◌∙◌, ℕ, ◌+◌, ◌*◌, ◌<◌, ◌≤◌, Bool, true, false, List, [], ◌∷◌, ◌++◌, length, map, slice_get, slice_index}
use Rattle.std.proofs.Common.{slice_index_or, if◌then◌else◌, Some, inl, inr, sym, ap, ap₂, ◌&&◌, subst, arith, true≢false}
use Rattle.std.specs.List.{range_with_len}
use Rattle.std.specs.Prelude.{bit_and}
use Rattle.bit_rows.proofs.words.WordBits.{has_bit-and}
use mathlib.Core.Logic.{dite}
use native.Mathlib.Decide.{ℕ_discrete}
use Rattle.std.proofs.Math.ListN.{get_or-append}
use Rattle.std.proofs.lemmas.List.{get_or_push}
use Rattle.std.proofs.lemmas.Bool.{and_parts, cases_lt}
use Rattle.std.proofs.lemmas.List.FromFn.{get_or-map-range_with_len, length-map-range_with_len}
use Rattle.bit_rows.specs.Words.{has_bit}
use Rattle.flow_graph.specs.Analyses.{HasPathAt, IsInTable, is_backward}
use Rattle.flow_graph.specs.Points.{point_count}
use Rattle.flow_graph.specs.Universes.{bits}
use Rattle.flow_graph.specs.declared.analysis.Analysis.{Analysis}
use Rattle.flow_graph.specs.declared.analysis.Analysis.TheVariants.{Reach, Live, Avail, Busy}
use Rattle.tac_program.specs.Programs.{Program}
use Rattle.flow_queries.specs.Queries.{AreAnswers, IsAnswerTo, IsQueryOf, IsWordAt}
use Rattle.flow_team.specs.Tables.{AreFacts, IsTableOf, TableFacts, facts_of}
use Rattle.flow_queries.specs.declared.query.Query.{Query}

-- a word of a table's set is the query's word
pub table_words : (program : Program) (table : TableFacts) (query : Query) (value : ℕ) → table.analysis ≡ query.analysis → IsTableOf program table
    → IsQueryOf program query
    → ((k : ℕ) → k < 64 → has_bit value k ≡ (facts_of table).contains query.point (64 * query.word + k))
    → ((k : ℕ) → k < 64 → table.bits ≤ 64 * query.word + k → has_bit value k ≡ false)
    → IsWordAt program query value
table_words program table query value same is of set past k small =
    let b = 64 * query.word + k in
    let facts : AreFacts program query.analysis (facts_of table) = subst (λ (a : Analysis). AreFacts program a (facts_of table)) same is.facts in
    elim (cases_lt b (bits program query.analysis)) [
      | inl below ↦
          let solved : ((facts_of table).contains query.point b ≡ true) ↔ IsInTable program query.analysis query.point b =
          facts.sets query.point b of.point below in (
            (λ has. (below, solved.0 (sym (set k small) ∙ has))),
            (λ there. set k small ∙ solved.1 there.1),
          )
      | inr above ↦
          let none =
          past k small (subst (λ (a : Analysis). bits program a ≤ b → table.bits ≤ b) same (λ most. omega (arith, is.bits, most)) above) in (
            (λ has. absurd (true≢false (sym has ∙ none))),
            (λ there. absurd (omega (arith, above, there.0))),
          )
    ]

-- those of its bits that are asked for answer the query
pub asked_answers : (program : Program) (query : Query) (value : ℕ) → IsWordAt program query value → IsAnswerTo program query (bit_and value query.bits)
asked_answers program query value is k small =
    let both = has_bit-and value query.bits k in (
      (λ has.
          let parts = and_parts (has_bit value k) (has_bit query.bits k) (sym both ∙ has) in
          let found = (is k small).0 parts.0 in
          (parts.1, found.0, found.1)),
      (λ found. both ∙ ap₂ ◌&&◌ ((is k small).1 (found.1, found.2)) found.0),
    )

-- and its flags are the path flags of its direction
pub table_flags : (program : Program) (table : TableFacts) (analysis : Analysis) (flags : List Bool) → table.analysis ≡ analysis
    → IsTableOf program table
    → flags ≡ map (facts_of table).has_path (range_with_len 0 (point_count program))
    → (length flags ≡ point_count program)
    × ((point : ℕ) → point < point_count program → (slice_index_or flags point false ≡ true) ↔ HasPathAt program analysis point)
table_flags program table analysis flags same is flags_are =
    let facts : AreFacts program analysis (facts_of table) = subst (λ (a : Analysis). AreFacts program a (facts_of table)) same is.facts in
    let has = (facts_of table).has_path in (
      subst (λ (fs : List Bool). length fs ≡ point_count program) (sym flags_are) (length-map-range_with_len has 0 (point_count program)),
      λ point below. subst (λ (fs : List Bool). (slice_index_or fs point false ≡ true) ↔ HasPathAt program analysis point) (sym flags_are)
          (subst (λ (b : Bool). (b ≡ true) ↔ HasPathAt program analysis point)
          (sym (get_or-map-range_with_len has 0 (point_count program) point point false below (omega arith))) (facts.paths point below)),
    )

-- one answer more
pub known_more : (program : Program) (queries : List Query) (words : List ℕ) (q value : ℕ) → length words ≡ q
    → ((i : ℕ) (query : Query) → i < q → slice_get queries i ≡ Some query → IsAnswerTo program query (slice_index words i))
    → ((query : Query) → slice_get queries q ≡ Some query → IsAnswerTo program query value)
    → (i : ℕ) (query : Query) → i < q + 1 → slice_get queries i ≡ Some query → IsAnswerTo program query (slice_index (words ++ value ∷ []) i)
known_more program queries words q value size before here i query below there = dite (ℕ_discrete i q)
    (λ same. subst (IsAnswerTo program query) (sym (get_or_push words value 0 i (size ∙ sym same))) (here query (ap (slice_get queries) (sym same) ∙ there)))
    (λ other.
    let earlier : i < q = omega (arith, below, other) in
    subst (IsAnswerTo program query) (sym (get_or-append words (value ∷ []) 0 i (omega (arith, earlier, size)))) (before i query earlier there))

-- the flags of a direction, of an analysis of it
abbrev pub AreFlagsOf : Program → Analysis → List Bool → Type 0
AreFlagsOf program analysis flags =
    (length flags ≡ point_count program)
    × ((point : ℕ) → point < point_count program → (slice_index_or flags point false ≡ true) ↔ HasPathAt program analysis point)

-- words that answer the queries, and the flags of both directions, are the answers
pub known_by_tables : (program : Program) (queries : List Query) (words : List ℕ) (forward backward : List Bool) → length words ≡ length queries
    → ((q : ℕ) (query : Query) → slice_get queries q ≡ Some query → IsAnswerTo program query (slice_index words q))
    → AreFlagsOf program Reach forward → AreFlagsOf program Live backward
    → AreAnswers program (record { queries = queries; words = words; forward = forward; backward = backward })
known_by_tables program queries words forward backward size answered ahead back = record { count = size; sets = answered; points = count; paths = paths }
  where
    count : (analysis : Analysis) → length (if is_backward analysis then backward else forward) ≡ point_count program
    count Reach = ahead.0
    count Avail = ahead.0
    count Live = back.0
    count Busy = back.0

    paths : (analysis : Analysis) (point : ℕ) → point < point_count program
        → (slice_index_or (if is_backward analysis then backward else forward) point false ≡ true) ↔ HasPathAt program analysis point
    paths Reach = ahead.1
    paths Avail = ahead.1
    paths Live = back.1
    paths Busy = back.1
