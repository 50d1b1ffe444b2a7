use Rattle.std.proofs.Common.{◌≡◌, ◌↔◌, ◌∙◌, ◌+◌, ◌*◌, ℕ, true, true≢false, refl, sym, subst, arith}
use Rattle.bit_rows.proofs.words.WordBits.{has_bit-zero}
use Rattle.bit_rows.specs.Words.{has_bit}
use Rattle.flow_team.specs.Sets.{IsInColumns}
use Rattle.gen_kill.specs.Selections.{Selection, all_bits}
use Rattle.flow_queries.proofs.queries.Gathered.{gathered_more}
use Rattle.flow_queries.proofs.solved_words.SolvedWords.gathered.Goals as goal

pub loop-place-init : goal.loop-place-init
loop-place-init c = record {
  same = refl;
  has = λ k small. ((λ has. absurd (true≢false (sym has ∙ has_bit-zero k))), (λ found. absurd (omega (arith, found.0))));
}

pub loop-place-preserved : goal.loop-place-preserved
loop-place-preserved c =
    let before = c.loop-place.invariant in
    let query = c.args.query in
    let place : ℕ = c.loop-place.place in
    let there = c.has-there.result in
    record {
      same = c.has-there.ensures.same ∙ before.same;
      has =
          gathered_more
          (λ k. (has_bit query.bits k ≡ true) × IsInColumns (all_bits c.args.self.now.program query.analysis) query.point (64 * query.word + k))
          c.loop-place.word c.with_bit_if-word.result place there c.with_bit_if-word.ensures
          (subst (λ (s : Selection). (there ≡ true) ↔ ((has_bit query.bits place ≡ true)
          × IsInColumns (all_bits s.program query.analysis) query.point (64 * query.word + place))) before.same c.has-there.ensures.tells)
          before.has;
    }

pub returns-clause-tells : goal.returns-clause-tells
returns-clause-tells c = λ k small.
    let law = c.loop-place.invariant.has k small in (
      (λ has. (law.0 has).1),
      (λ found. law.1 (omega (arith, small, c.loop-place-test.false), found)),
    )
