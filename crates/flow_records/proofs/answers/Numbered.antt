-- Queries of numbers, and why there are none.
use Rattle.std.proofs.Common.{◌≡◌, ◌∙◌, ◌+◌, ◌<◌, ◌++◌, ◌∷◌, [], ℕ, List, Some, length, slice_get, get_or, sym, ap, subst, arith}
use mathlib.Core.Logic.{dite}
use native.Mathlib.Decide.{ℕ_discrete}
use Rattle.std.proofs.lemmas.List.{get_or_append_left, get_or_push}
use Rattle.std.proofs.lemmas.Option.{get_or_from_slice_get, slice_get_within, slice_get-get_or}
use Rattle.flow_kept.specs.Words.{AreWordsAsked}
use Rattle.flow_queries.specs.Queries.{AreQueriesOf}
use Rattle.flow_queries.specs.code.Boards.{no_query}
use Rattle.flow_queries.specs.declared.query.Query.{Query}
use Rattle.tac_program.specs.Programs.{Program}
use Rattle.flow_records.specs.Queries.{AreAnswersTo, AreNumbered, IsQueryFault, IsNumberedFault, IsNumberedQuery}
use Rattle.flow_records.specs.declared.queries.NumberedQuery.{NumberedQuery}
use Rattle.flow_records.specs.declared.fault.Fault.{Fault}
use Rattle.flow_records.specs.declared.fault.Fault.TheVariants as fault

-- one query more is that of its numbers
pub numbered_more : (program : Program) (asks : List NumberedQuery) (queries : List Query) (n : ℕ) (ask : NumberedQuery) (query : Query) → length queries ≡ n
    → slice_get asks n ≡ Some ask → IsNumberedQuery program ask query
    → ((q : ℕ) (other : NumberedQuery) (one : Query) → q < n → slice_get asks q ≡ Some other → slice_get queries q ≡ Some one → IsNumberedQuery program other one)
    → (q : ℕ) (other : NumberedQuery) (one : Query) → q < n + 1 → slice_get asks q ≡ Some other → slice_get (queries ++ query ∷ []) q ≡ Some one
    → IsNumberedQuery program other one
numbered_more program asks queries n ask query count at numbered before q other one below there is = dite (ℕ_discrete q n)
    (λ same.
    let last : get_or (queries ++ query ∷ []) q query ≡ query = get_or_push queries query query q (omega (arith, same, count)) in
    let found : get_or (queries ++ query ∷ []) q query ≡ one = get_or_from_slice_get (queries ++ query ∷ []) q one query is in
    let asked : Some other ≡ Some ask = sym there ∙ ap (slice_get asks) same ∙ at in
    let of : other ≡ ask = cc asked in
    subst (λ (a : NumberedQuery). IsNumberedQuery program a one) (sym of) (subst (IsNumberedQuery program ask) (sym last ∙ found) numbered))
    (λ apart.
    let low : q < n = omega (arith, below, apart) in
    let inside : q < length queries = omega (arith, low, count) in
    let still : get_or (queries ++ query ∷ []) q query ≡ get_or queries q query = get_or_append_left queries (query ∷ []) query q inside in
    let found : get_or (queries ++ query ∷ []) q query ≡ one = get_or_from_slice_get (queries ++ query ∷ []) q one query is in
    before q other one low there (slice_get-get_or queries q query inside ∙ ap (λ (a : Query). Some a) (sym still ∙ found)))

-- where numbers stand for no query
pub ask_fault : (asks : List NumberedQuery) (program : Program) (q : ℕ) (ask : NumberedQuery) (f : Fault) → slice_get asks q ≡ Some ask → IsNumberedFault program ask f
    → IsQueryFault asks program f
ask_fault asks program q ask fault.BadAnalysis there cause = (q, ask, there, cause)
ask_fault asks program q ask fault.BadRange there cause = (q, ask, there, cause)
ask_fault asks program q ask (fault.Refused refusal) there cause = absurd cause
ask_fault asks program q ask fault.TooManyPoints there cause = absurd cause
ask_fault asks program q ask fault.TooManyBits there cause = absurd cause
ask_fault asks program q ask fault.OutOfMemory there cause = absurd cause
ask_fault asks program q ask fault.BadLimits there cause = absurd cause
ask_fault asks program q ask fault.BadRoom there cause = absurd cause
ask_fault asks program q ask fault.BadHandle there cause = absurd cause

module _ (program : Program) (asks : List NumberedQuery) (queries : List Query) (numbered : AreNumbered program asks queries) where
  -- they are queries of the program
  pub are_queries : AreQueriesOf program queries
  are_queries q query there =
      let inside : q < length asks = omega (arith, slice_get_within queries q query there, numbered.count) in
      (numbered.each q _ query (slice_get-get_or asks q (record { analysis = 0; point = 0; word = 0 }) inside) there).is_query

  -- their answers are those of the numbers
  pub are_answers : (words : List ℕ) → AreWordsAsked program queries words → AreAnswersTo program asks words
  are_answers words asked = record {
    count = asked.count ∙ numbered.count;
    each = λ q ask there.
        let inside : q < length queries = omega (arith, slice_get_within asks q ask there, numbered.count) in
        let is = slice_get-get_or queries q no_query inside in
        (get_or queries q no_query, numbered.each q ask (get_or queries q no_query) there is, asked.each q (get_or queries q no_query) is);
  }
