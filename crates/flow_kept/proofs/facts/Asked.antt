-- Runs of queries, and their answers.
use Rattle.std.proofs.Common.{◌≡◌, ◌↔◌, ℕ, ◌+◌, ◌*◌, ◌<◌, ◌≤◌, ◌⊎◌, List, Some, length, slice_get, get_or, inl, inr, refl, sym, ap, subst, ◌∙◌, arith}
use Rattle.std.proofs.lemmas.Bool.{cases_lt}
use Rattle.flow_graph.specs.Universes.{bits}
use Rattle.flow_kept.specs.Facts.{IsFactWord}
use Rattle.flow_kept.specs.code.Asked.{AreInRun, IsAsked}
use Rattle.flow_kept.specs.declared.asking.Run.{Run}
use Rattle.flow_queries.specs.Queries.{AreQueriesOf, IsWordAt}
use Rattle.flow_queries.specs.declared.query.Query.{Query}
use Rattle.gen_kill.specs.Selections.{all_bits}
use Rattle.tac_program.specs.Programs.{Program}

module _ (queries : List Query) (places : List ℕ) (from : ℕ) where
  -- the query that a run begins with
  pub run_one : (query : Query) → from < length places → slice_get queries (get_or places from 0) ≡ Some query
      → AreInRun queries places from (record { analysis = query.analysis; until = from + 1; first = query.word; last = query.word })
  run_one query there is = record {
    more = omega arith;
    most = omega arith;
    ordered = omega arith;
    each = λ j other low high at.
        let same : from ≡ j = omega (arith, low, high) in
        let both : Some query ≡ Some other = sym is ∙ subst (λ k. slice_get queries (get_or places k 0) ≡ Some other) (sym same) at in
        let one : query ≡ other = cc both in (
          ap (λ (q : Query). q.analysis) (sym one),
          omega (arith, ap (λ (q : Query). q.word) one),
          omega (arith, ap (λ (q : Query). q.word) one),
        );
    last_is = (from, query, omega arith, is, refl, refl);
  }

  -- one query more
  pub run_more : (run : Run) (query : Query) (first last : ℕ) → AreInRun queries places from run → run.until < length places
      → slice_get queries (get_or places run.until 0) ≡ Some query → query.analysis ≡ run.analysis
      → first ≤ run.first → first ≤ query.word → run.last ≤ last → query.word ≤ last → (last ≡ run.last) ⊎ (last ≡ query.word)
      → AreInRun queries places from (record { analysis = run.analysis; until = run.until + 1; first = first; last = last })
  run_more run query first last are there is same_analysis first_run first_word last_run last_word either = record {
    more = omega (arith, are.more);
    most = omega (arith, there);
    ordered = omega (arith, are.ordered, first_run, last_run);
    each = λ j other low high at. elim (cases_lt j run.until) [
      | inl before ↦
          let old = are.each j other low before at in (
            old.0,
            omega (arith, old.1, first_run),
            omega (arith, old.2, last_run),
          )
      | inr behind ↦
          let same : run.until ≡ j = omega (arith, high, behind) in
          let both : Some query ≡ Some other = sym is ∙ subst (λ k. slice_get queries (get_or places k 0) ≡ Some other) (sym same) at in
          let one : query ≡ other = cc both in (
            ap (λ (q : Query). q.analysis) (sym one) ∙ same_analysis,
            omega (arith, ap (λ (q : Query). q.word) one, first_word),
            omega (arith, ap (λ (q : Query). q.word) one, last_word),
          )
    ];
    last_is = elim either [
      | inl old ↦
          let (j, other, high, at, analysis, word) = are.last_is in
          (j, other, omega (arith, high), at, analysis, omega (arith, word, old))
      | inr new ↦ (run.until, query, omega arith, is, same_analysis, sym new)
    ];
  }

  -- what is asked last is a word of the analysis
  pub last_there : (program : Program) (run : Run) → AreQueriesOf program queries → AreInRun queries places from run
      → 64 * run.last < bits program run.analysis
  last_there program run of are =
      let (j, query, high, at, analysis, word) = are.last_is in
      let there = (of (get_or places j 0) query at).word in
      let same = ap (bits program) analysis in
      omega (arith, there, same, word)

  -- a query of the run is asked of a slice of the run's bits
  pub asked_in_run : (program : Program) (run : Run) (lo hi count j : ℕ) (query : Query) → AreQueriesOf program queries → AreInRun queries places from run
      → from ≤ j → j < run.until → slice_get queries (get_or places j 0) ≡ Some query → lo ≡ 64 * run.first → count ≡ bits program run.analysis
      → ((word k : ℕ) → word ≤ run.last → k < 64 → (64 * word + k < hi) ↔ (64 * word + k < count))
      → IsAsked (all_bits program run.analysis) lo hi query
  asked_in_run program run lo hi count j query of are low below there first counts high =
      let at = are.each j query low below there in
      let same : count ≡ bits program query.analysis = counts ∙ ap (bits program) (sym at.0) in
      record {
        whole = ap (all_bits program) (sym at.0);
        point = (of (get_or places j 0) query there).point;
        low = omega (arith, first, at.1);
        high = λ k small.
            subst (λ n. (64 * query.word + k < hi) ↔ (64 * query.word + k < n)) same (high query.word k at.2 small);
      }

-- the word of a fact is the query's word, where the slice has all bits of it
pub answer_is : (program : Program) (lo hi : ℕ) (query : Query) (told : ℕ) → lo ≤ 64 * query.word
    → ((k : ℕ) → k < 64 → (64 * query.word + k < hi) ↔ (64 * query.word + k < bits program query.analysis))
    → IsFactWord program query.analysis lo hi query.point query.word told → IsWordAt program query told
answer_is program lo hi query told low high fact k small =
    let is = fact k small in (
      λ has. let there = is.0 has in ((high k small).0 there.1, there.2),
      λ there. is.1 (omega (arith, low), (high k small).1 there.0, there.1),
    )
