-- What answers tell where they were asked for.
use Rattle.std.proofs.Common.{◌≡◌, ◌↔◌, ◌∙◌, ℕ, zero, suc, ◌+◌, ◌*◌, ◌/◌, ◌%◌, ◌^◌, ◌<◌, Bool, true, false, ◌&&◌, List, [], ◌∷◌, Some, length, nat_eq}
use Rattle.std.proofs.Common.{slice_get, slice_index, if◌then◌else◌, inl, inr, refl, sym, ap, subst, arith}
use Rattle.std.proofs.lemmas.Bool.{eqb-true}
use Rattle.std.proofs.lemmas.Bool.Decides.{same_from_decides}
use Rattle.std.proofs.lemmas.Nat.{one_shl}
use Rattle.bit_rows.proofs.words.WordBits.{has_bit-shifted_same, has_bit-zero}
use Rattle.bit_rows.specs.Words.{has_bit}
use Rattle.flow_graph.specs.Analyses.{IsInTable}
use Rattle.flow_graph.specs.Universes.{bits}
use Rattle.flow_graph.specs.declared.analysis.Analysis.{Analysis}
use Rattle.flow_graph.specs.declared.analysis.Analysis.TheVariants.{Reach, Live, Avail, Busy}
use Rattle.flow_graph.proofs.paths.PathLemmas.{nat_eq_same}
use Rattle.tac_program.specs.Programs.{Program}
use Rattle.flow_queries.specs.Queries.{AreAnswers, IsAnswerTo, Replies}
use Rattle.flow_queries.specs.declared.query.Query.{Query}
use Rattle.report_answers.specs.code.Answered.{answer_in, query_for, facts_in, is_analysis, is_query}
use Rattle.report_answers.specs.code.Chosen.{AsksOnly, blank_query, wanted_query, wants}
use Rattle.report_answers.specs.declared.chosen_bits.ChosenBits.{ChosenBits}

same_analysis : (a b : Analysis) → is_analysis a b ≡ true → a ≡ b
same_analysis Reach Reach is = refl
same_analysis Reach Live is = absurd (cc is)
same_analysis Reach Avail is = absurd (cc is)
same_analysis Reach Busy is = absurd (cc is)
same_analysis Live Reach is = absurd (cc is)
same_analysis Live Live is = refl
same_analysis Live Avail is = absurd (cc is)
same_analysis Live Busy is = absurd (cc is)
same_analysis Avail Reach is = absurd (cc is)
same_analysis Avail Live is = absurd (cc is)
same_analysis Avail Avail is = refl
same_analysis Avail Busy is = absurd (cc is)
same_analysis Busy Reach is = absurd (cc is)
same_analysis Busy Live is = absurd (cc is)
same_analysis Busy Avail is = absurd (cc is)
same_analysis Busy Busy is = refl

analysis_itself : (a : Analysis) → is_analysis a a ≡ true
analysis_itself Reach = refl
analysis_itself Live = refl
analysis_itself Avail = refl
analysis_itself Busy = refl

four : (a b c d : Bool) → (a && b && c && d) ≡ true → (a ≡ true) × (b ≡ true) × (c ≡ true) × (d ≡ true)
four true true true true is = (refl, refl, refl, refl)
four true true true false is = absurd (cc is)
four true true false d is = absurd (cc is)
four true false c d is = absurd (cc is)
four false b c d is = absurd (cc is)

same_query : (one other : Query) → is_query one other ≡ true → one ≡ other
same_query one other is =
    let all =
    four (is_analysis one.analysis other.analysis) (nat_eq one.point other.point) (nat_eq one.word other.word) (nat_eq one.bits other.bits) is in
    λ i. let query : Query = record {
      analysis = same_analysis one.analysis other.analysis all.0 i;
      point = eqb-true one.point other.point all.1 i;
      word = eqb-true one.word other.word all.2 i;
      bits = eqb-true one.bits other.bits all.3 i;
    } in query

query_itself : (query : Query) → is_query query query ≡ true
query_itself query =
    ap (λ b. b && nat_eq query.point query.point && nat_eq query.word query.word && nat_eq query.bits query.bits) (analysis_itself query.analysis)
    ∙ ap (λ b. true && b && nat_eq query.word query.word && nat_eq query.bits query.bits) (nat_eq_same query.point)
    ∙ ap (λ b. b && nat_eq query.bits query.bits) (nat_eq_same query.word)
    ∙ nat_eq_same query.bits

-- the first word answers a query that is the first, and the others one that is among the others
known_first : (program : Program) (one : Query) (queries : List Query) (word : ℕ) (words : List ℕ) (query : Query)
    → (Some one ≡ Some query → IsAnswerTo program query word)
    → ((p : ℕ) → slice_get queries p ≡ Some query → IsAnswerTo program query (answer_in queries words query))
    → (q : ℕ) → slice_get (one ∷ queries) q ≡ Some query → (b : Bool) → is_query one query ≡ b
    → IsAnswerTo program query (answer_in (one ∷ queries) (word ∷ words) query)
known_first program one queries word words query first others q there true is =
    subst (IsAnswerTo program query) (sym (ap (λ b. if b then word else answer_in queries words query) is)) (first (ap (λ a. Some a) (same_query one query is)))
known_first program one queries word words query first others zero there false is =
    let same : one ≡ query = cc there in
    absurd (cc (sym is ∙ ap (λ a. is_query a query) same ∙ query_itself query))
known_first program one queries word words query first others (suc p) there false is =
    subst (IsAnswerTo program query) (sym (ap (λ b. if b then word else answer_in queries words query) is)) (others p there)

-- the word beside a query answers it, where all do
pub answered : (program : Program) (queries : List Query) (words : List ℕ) → length words ≡ length queries
    → ((q : ℕ) (query : Query) → slice_get queries q ≡ Some query → IsAnswerTo program query (slice_index words q))
    → (q : ℕ) (query : Query) → slice_get queries q ≡ Some query → IsAnswerTo program query (answer_in queries words query)
answered program [] words size each q query there = absurd (cc there)
answered program (one ∷ queries) [] size each q query there = absurd (omega (arith, size))
answered program (one ∷ queries) (word ∷ words) size each q query there =
    known_first program one queries word words query (each 0 query)
    (λ p here. answered program queries words (omega (arith, size)) (λ r a is. each (suc r) a is) p query here) q there (is_query one query) refl

-- a bit is asked for by its query
its_bit : (bit : ℕ) → has_bit (2 ^ (bit % 64)) (bit % 64) ≡ true
its_bit bit =
    subst (λ (n : ℕ). has_bit n (bit % 64) ≡ true) (one_shl (bit % 64) 64 (omega arith)) (has_bit-shifted_same (bit % 64) (omega arith))

-- what is told of a bit that was asked for
pub bit_known : (program : Program) (replies : Replies) → AreAnswers program replies → (analysis : Analysis) (point bit q : ℕ)
    → slice_get replies.queries q ≡ Some (query_for analysis point bit)
    → ((facts_in replies analysis).contains point bit ≡ true) ↔ ((bit < bits program analysis) × IsInTable program analysis point bit)
bit_known program replies are analysis point bit q there =
    let whole : 64 * (bit / 64) + bit % 64 ≡ bit = omega arith in
    let known = answered program replies.queries replies.words are.count are.sets q (query_for analysis point bit) there (bit % 64) (omega arith) in
    subst (λ (b : ℕ). ((facts_in replies analysis).contains point bit ≡ true) ↔ ((b < bits program analysis) × IsInTable program analysis point b))
    whole ((λ has. let found = known.0 has in (found.1, found.2)), (λ found. known.1 (its_bit bit, found.0, found.1)))

-- the answer to its query has the bit where it is told
asked_known : (program : Program) (replies : Replies) → AreAnswers program replies → (analysis : Analysis) (point bit q : ℕ)
    → slice_get replies.queries q ≡ Some (query_for analysis point bit)
    → has_bit (slice_index replies.words q) (bit % 64) ≡ (facts_in replies analysis).contains point bit
asked_known program replies are analysis point bit q there =
    let query : Query = query_for analysis point bit in
    let small : bit % 64 < 64 = omega arith in
    same_from_decides (has_bit (slice_index replies.words q) (bit % 64)) (has_bit (answer_in replies.queries replies.words query) (bit % 64))
    (are.sets q query there (bit % 64) small) (answered program replies.queries replies.words are.count are.sets q query there (bit % 64) small)

-- a query that is not asked has no answer
unasked : (queries : List Query) (words : List ℕ) (query : Query) → ((q : ℕ) → ¬ (slice_get queries q ≡ Some query))
    → answer_in queries words query ≡ 0
unasked [] words query none = refl
unasked (one ∷ queries) [] query none = refl
unasked (one ∷ queries) (word ∷ words) query none =
    by_test (is_query one query) refl (unasked queries words query (λ q there. none (suc q) there))
  where
    by_test : (b : Bool) → is_query one query ≡ b → answer_in queries words query ≡ 0 → (if b then word else answer_in queries words query) ≡ 0
    by_test true is rest = absurd (none 0 (ap (λ a. Some a) (same_query one query is)))
    by_test false is rest = rest

-- and a bit that is not wanted is not asked
not_asked : (chosen : ChosenBits) (queries : List Query) → AsksOnly chosen queries → (analysis : Analysis) (point bit : ℕ)
    → wants chosen analysis bit ≡ false → (q : ℕ) → ¬ (slice_get queries q ≡ Some (query_for analysis point bit))
not_asked chosen queries only analysis point bit off q there = elim (only q (query_for analysis point bit) there) [
  | inl none ↦ (
      let both : true ≡ false = sym (its_bit bit) ∙ ap (λ (n : ℕ). has_bit n (bit % 64)) none ∙ has_bit-zero (bit % 64) in cc both)
  | inr on ↦ (let both : true ≡ false = sym on ∙ off in cc both)
]

no_bit : (b : Bool) → ¬ (b ≡ true) → b ≡ false
no_bit true never = absurd (never refl)
no_bit false never = refl

-- The answer at a bit's place has it where it is told; a bit that is not wanted is in neither.
pub word_known : (chosen : ChosenBits) (program : Program) (replies : Replies) → AreAnswers program replies → AsksOnly chosen replies.queries
    → (analysis : Analysis) (point bit q : ℕ) → slice_get replies.queries q ≡ Some (wanted_query chosen analysis point bit)
    → has_bit (slice_index replies.words q) (bit % 64) ≡ (facts_in replies analysis).contains point bit
word_known chosen program replies are only analysis point bit q there = by_choice (wants chosen analysis bit) refl
  where
    by_choice : (b : Bool) → wants chosen analysis bit ≡ b
        → has_bit (slice_index replies.words q) (bit % 64) ≡ (facts_in replies analysis).contains point bit
    by_choice true on =
        asked_known program replies are analysis point bit q (there ∙ ap (λ (b : Bool). Some (if b then query_for analysis point bit else blank_query analysis point)) on)
    by_choice false off =
        let blank : slice_get replies.queries q ≡ Some (blank_query analysis point) = there ∙ ap (λ (b : Bool). Some (if b then query_for analysis point bit else blank_query analysis point)) off in
        let answers = are.sets q (blank_query analysis point) blank (bit % 64) (omega arith) in
        no_bit (has_bit (slice_index replies.words q) (bit % 64))
        (λ has. let both : true ≡ false = sym (answers.0 has).0 ∙ has_bit-zero (bit % 64) in cc both)
        ∙ sym
        (ap (λ (w : ℕ). has_bit w (bit % 64))
        (unasked replies.queries replies.words (query_for analysis point bit) (not_asked chosen replies.queries only analysis point bit off))
        ∙ has_bit-zero (bit % 64))
