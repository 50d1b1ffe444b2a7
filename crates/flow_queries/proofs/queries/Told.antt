-- What the words of a problem tell that were solved last.
use Rattle.std.proofs.Common.{◌≡◌, ◌↔◌, ◌∙◌, ℕ, ◌+◌, ◌*◌, ◌<◌, ◌≤◌, ◌&&◌, true, true≢false, sym, ap, ap₂, subst, arith}
use Rattle.std.specs.Prelude.{bit_and}
use Rattle.std.proofs.lemmas.Bool.{and_parts}
use Rattle.bit_rows.proofs.words.WordBits.{has_bit-and, has_bit-zero}
use Rattle.bit_rows.specs.Words.{has_bit}
use Rattle.flow_graph.specs.Points.{point_count}
use Rattle.flow_graph.specs.Paths.{SomePathHas}
use Rattle.flow_graph.specs.Problems.{may_shape, may_transfer}
use Rattle.flow_graph.specs.Universes.{bits}
use Rattle.flow_graph.specs.declared.analysis.Analysis.{Analysis}
use Rattle.flow_queries.specs.code.Solving.{AreWordsOf, IsAskedWord}
use Rattle.flow_queries.specs.declared.query.Query.{Query}
use Rattle.flow_team.specs.Sets.{IsInColumns}
use Rattle.gen_kill.specs.Selections.{IsColumnOf, Selection, all_bits}
use Rattle.gk_solve.specs.Solved.{SliceTable, word_at}
use Rattle.tac_program.specs.Programs.{Program}

pub word_told : (selection : Selection) (slice : SliceTable) (from until point word k value : ℕ) → AreWordsOf selection from until slice → from ≤ word
    → word < until → point < point_count selection.program → k < 64 → value ≡ word_at slice point word
    → (has_bit value k ≡ true) ↔ IsInColumns selection point (64 * word + k)
word_told selection slice from until point word k value are low high inside small is =
    let solved = are.solved (omega (arith, low, high)) in
    let law = solved.2 point word k (omega (arith, inside, are.of.points)) (omega (arith, low, solved.0)) (omega (arith, high, solved.1)) small in (
      (λ has. (law.0 (ap (λ (n : ℕ). has_bit n k) (sym is) ∙ has)).2),
      (λ there. ap (λ (n : ℕ). has_bit n k) is ∙ law.1 (omega (arith, are.lo), omega (arith, are.hi, there.1), there)),
    )

-- a bit is in the may form's set where its column is
pub same_bit : (selection : Selection) (analysis : Analysis) (point bit column : ℕ) → analysis ≡ selection.analysis → IsColumnOf selection bit column
    → bit < bits selection.program analysis
    → IsInColumns selection point column ↔ IsInColumns (all_bits selection.program analysis) point bit
same_bit selection analysis point bit column goes is below =
    let at : Analysis → ℕ → Type 0 = λ a b. SomePathHas (may_shape selection.program a) (may_transfer selection.program a b) point in (
      (λ has. (has.0, below, subst (λ (a : Analysis). at a bit) (sym goes) (subst (at selection.analysis) is.1 has.2))),
      (λ has. (has.0, is.0, subst (at selection.analysis) (sym is.1) (subst (λ (a : Analysis). at a bit) goes has.2))),
    )

-- where nothing is asked nothing is told
pub none_asked : (program : Program) (query : Query) → query.bits ≡ 0 → IsAskedWord program query 0
none_asked program query none k small = (
  (λ has. absurd (true≢false (sym has ∙ has_bit-zero k))),
  (λ found. absurd (true≢false (sym found.0 ∙ ap (λ (n : ℕ). has_bit n k) none ∙ has_bit-zero k))),
)

-- where all bits are solved a word's own places tell its bits
pub whole_asked : (selection : Selection) (query : Query) (value : ℕ) → query.analysis ≡ selection.analysis
    → selection ≡ all_bits selection.program selection.analysis
    → ((k : ℕ) → k < 64 → (has_bit value k ≡ true) ↔ IsInColumns selection query.point (64 * query.word + k))
    → IsAskedWord selection.program query (bit_and value query.bits)
whole_asked selection query value goes whole tells k small =
    let x : ℕ = 64 * query.word + k in
    let both = has_bit-and value query.bits k in
    let is : selection ≡ all_bits selection.program query.analysis = whole ∙ ap (all_bits selection.program) (sym goes) in (
      (λ has.
          let parts = and_parts (has_bit value k) (has_bit query.bits k) (sym both ∙ has) in
          (parts.1, subst (λ (s : Selection). IsInColumns s query.point x) is ((tells k small).0 parts.0))),
      (λ found. both
          ∙ ap₂ ◌&&◌ ((tells k small).1 (subst (λ (s : Selection). IsInColumns s query.point x) (sym is) found.1)) found.0),
    )
