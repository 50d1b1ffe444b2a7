-- What the words of a closed board say of the queries.
use Rattle.std.proofs.Common.{◌≡◌, ◌↔◌, ◌∙◌, ℕ, ◌+◌, ◌*◌, ◌/◌, ◌%◌, ◌<◌, ◌≤◌, Bool, true, false, true≢false, ◌&&◌, nat_lt, List, Some, length, slice_get}
use Rattle.std.proofs.Common.{slice_index, refl, sym, ap, ap₂, subst, arith}
use Rattle.std.specs.Prelude.{bit_and, bit_xor}
use Rattle.bit_rows.proofs.words.WordBits.{has_bit-and}
use Rattle.bit_rows.specs.RowSet.{IsWordOf, contains}
use Rattle.bit_rows.specs.RowTable.{RowTable, set_at}
use Rattle.bit_rows.specs.Words.{has_bit}
use Rattle.flow_graph.specs.Analyses.{IsInTable, is_must}
use Rattle.flow_graph.specs.Problems.{may_shape, may_transfer}
use Rattle.flow_graph.specs.Paths.{SomePathHas}
use Rattle.flow_graph.specs.Universes.{bits}
use Rattle.flow_graph.specs.declared.analysis.Analysis.TheVariants.{Reach, Live}
use Rattle.flow_graph.proofs.graphs.MayForms.{flags_are_may_forms, may_tables_are_may_forms, must_tables_are_may_forms}
use Rattle.gen_kill.specs.Selections.{may_form}
use Rattle.gk_solve.specs.Solved.{HasPathFlags}
use Rattle.tac_program.specs.Programs.{Program}
use Rattle.flow_queries.specs.Queries.{AreAnswers, AreQueriesOf, IsAnswerTo}
use Rattle.flow_team.specs.Sets.{IsInColumns}
use Rattle.flow_queries.specs.code.Boards.{Queried, IsWanted}
use Rattle.flow_queries.specs.code.Directions.{selection_of}
use Rattle.flow_team.specs.code.Complements.{complemented}
use Rattle.flow_queries.specs.declared.query.Query.{Query}
use Rattle.flow_queries.proofs.queries.TableAnswers.{known_by_tables}
use Rattle.flow_team.proofs.complements.ComplementedPlaces.{has_bit-xor, complemented_place}

-- what is wanted of a query's place
wanted_place : (queried : Queried) (j k : ℕ) (query : Query) → AreQueriesOf queried.program queried.order → slice_get queried.order j ≡ Some query → k < 64
    → (set : Bool)
    → (set ≡ true) ↔ IsWanted queried 0 (64 * j + k)
    → has_bit query.bits k ≡ true
    → (set ≡ true) ↔ ((0 ≤ 64 * query.word + k) × (64 * query.word + k < bits queried.program query.analysis)
    × SomePathHas (may_shape queried.program query.analysis) (may_transfer queried.program query.analysis (64 * query.word + k)) query.point)
wanted_place queried j k query of there small set solved asked =
    let at : (64 * j + k) / 64 ≡ j = omega (arith, small) in
    let place : (64 * j + k) % 64 ≡ k = omega (arith, small) in (
      (λ has.
          let want = solved.0 has in
          let both : Some want.query ≡ Some query = sym want.there ∙ ap (slice_get queried.order) at ∙ there in
          let same : want.query ≡ query = cc both in
          let some : IsInColumns (selection_of queried.program query.analysis) query.point (64 * query.word + k) =
          subst (λ (n : ℕ). IsInColumns (selection_of queried.program query.analysis) query.point (64 * query.word + n)) place
          (subst (λ (a : Query). IsInColumns (selection_of queried.program a.analysis) a.point (64 * a.word + (64 * j + k) % 64)) same want.some) in
          (omega arith, some.1, some.2)),
      (λ some. solved.1 (record {
        only = refl;
        query = query;
        there = ap (slice_get queried.order) at ∙ there;
        asked = ap (has_bit query.bits) place ∙ asked;
        some = subst (λ (n : ℕ). IsInColumns (selection_of queried.program query.analysis) query.point (64 * query.word + n)) (sym place)
            ((of j query there).point, some.1, some.2);
      })),
    )

-- what is wanted was asked for
wanted_is_asked : (queried : Queried) (j k : ℕ) (query : Query) → slice_get queried.order j ≡ Some query → k < 64
    → IsWanted queried 0 (64 * j + k) → has_bit query.bits k ≡ true
wanted_is_asked queried j k query there small want =
    let at : (64 * j + k) / 64 ≡ j = omega (arith, small) in
    let place : (64 * j + k) % 64 ≡ k = omega (arith, small) in
    let both : Some want.query ≡ Some query = sym want.there ∙ ap (slice_get queried.order) at ∙ there in
    let same : want.query ≡ query = cc both in
    ap (has_bit query.bits) (sym place) ∙ subst (λ (a : Query). has_bit a.bits ((64 * j + k) % 64) ≡ true) same want.asked

-- of what was not asked for nothing is complemented
unasked : (mask asked set : Bool) → asked ≡ false → (set ≡ true → asked ≡ true) → complemented (mask && asked) set ≡ true → asked ≡ true
unasked true true set none only has = refl
unasked false true set none only has = refl
unasked true false true none only has = only refl
unasked false false true none only has = only refl
unasked true false false none only has = absurd (true≢false (sym has))
unasked false false false none only has = absurd (true≢false (sym has))

both_true : (mask asked : Bool) → asked ≡ true → (mask && asked) ≡ mask
both_true true true is = refl
both_true false true is = refl
both_true true false is = absurd (true≢false (sym is))
both_true false false is = refl

-- a posted word, complemented at the places that were asked for where the analysis is over every path, is the answer
pub word_answers : (queried : Queried) (j : ℕ) (query : Query) (rows : RowTable) (value mask limit : ℕ) (must : Bool) → AreQueriesOf queried.program queried.order
    → slice_get queried.order j ≡ Some query → ((point bit : ℕ) → (contains (set_at rows point) bit ≡ true) ↔ IsWanted queried point bit)
    → IsWordOf (set_at rows 0) j value → must ≡ is_must query.analysis → limit ≡ bits queried.program query.analysis
    → ((k : ℕ) → k < 64 → has_bit mask k ≡ (must && nat_lt (64 * query.word + k) limit))
    → IsAnswerTo queried.program query (bit_xor value (bit_and mask query.bits))
word_answers queried j query rows value mask limit must of there solved is musts limits complements k small =
    by_asked (has_bit query.bits k) refl
  where
    b : ℕ
    b = 64 * query.word + k

    set : Bool
    set = contains (set_at rows 0) (64 * j + k)

    placed : has_bit (bit_xor value (bit_and mask query.bits)) k ≡ complemented (has_bit mask k && has_bit query.bits k) set
    placed = has_bit-xor value (bit_and mask query.bits) k ∙ ap₂ complemented (has_bit-and mask query.bits k) (is k small)

    by_asked : (asked : Bool) → has_bit query.bits k ≡ asked
        → (has_bit (bit_xor value (bit_and mask query.bits)) k ≡ true)
        ↔ ((has_bit query.bits k ≡ true) × (b < bits queried.program query.analysis) × IsInTable queried.program query.analysis query.point b)
    by_asked true asked =
        let whole =
        complemented_place (IsInTable queried.program query.analysis query.point b)
        (SomePathHas (may_shape queried.program query.analysis) (may_transfer queried.program query.analysis b) query.point) b
        (bits queried.program query.analysis)
        (is_must query.analysis) set (has_bit mask k)
        (may_tables_are_may_forms queried.program query.analysis query.point b) (must_tables_are_may_forms queried.program query.analysis query.point b)
        (complements k small ∙ ap₂ (λ m n. m && nat_lt b n) musts limits)
        (wanted_place queried j k query of there small set (solved 0 (64 * j + k)) asked) in
        let at : has_bit (bit_xor value (bit_and mask query.bits)) k ≡ complemented (has_bit mask k) set =
        placed ∙ ap (λ m. complemented m set) (both_true (has_bit mask k) (has_bit query.bits k) asked) in (
          (λ has. let found = whole.0 (sym at ∙ has) in (asked, found.0, found.1)),
          (λ found. at ∙ whole.1 (found.1, found.2)),
        )
    by_asked false none = (
      (λ has. absurd (true≢false (sym (unasked (has_bit mask k) (has_bit query.bits k) set none
          (λ is_set. wanted_is_asked queried j k query there small ((solved 0 (64 * j + k)).0 is_set)) (sym placed ∙ has)) ∙ none))),
      (λ found. absurd (true≢false (sym found.0 ∙ none))),
    )

-- words that answer the queries, and the flags of both directions, are the answers
pub answers_known : (program : Program) (queries : List Query) (words : List ℕ) (forward backward : List Bool) → length words ≡ length queries
    → ((q : ℕ) (query : Query) → slice_get queries q ≡ Some query → IsAnswerTo program query (slice_index words q))
    → HasPathFlags (may_form (selection_of program Reach)) forward → HasPathFlags (may_form (selection_of program Live)) backward
    → AreAnswers program (record { queries = queries; words = words; forward = forward; backward = backward })
answers_known program queries words forward backward size answered ahead back =
    known_by_tables program queries words forward backward size answered (ahead.count, ahead.flag) (
      back.count,
      λ point there.
          let law = flags_are_may_forms program Live point in
          let is = back.flag point there in
          ((λ has. law.1 (is.0 has)), (λ path. is.1 (law.0 path))),
    )
