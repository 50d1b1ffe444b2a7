use Rattle.std.proofs.Common.{◌≡◌, ◌↔◌, ◌∙◌, ◌+◌, ◌*◌, ◌/◌, ◌%◌, ℕ, true, sym, subst, arith}
use Rattle.bit_rows.specs.Words.{has_bit}
use Rattle.flow_team.specs.Sets.{IsInColumns}
use Rattle.flow_queries.proofs.solved_words.SolvedWords.has_column.Goals as goal

pub returns-clause-tells : goal.returns-clause-tells
returns-clause-tells c =
    let column : ℕ = c.args.column in
    let back : 64 * (column / 64) + column % 64 ≡ column = omega arith in
    let law = subst (λ (n : ℕ). (has_bit c.word-word.result (column % 64) ≡ true) ↔ IsInColumns c.args.self.now c.args.point n) back
    (c.word-word.ensures.tells (column % 64) (omega arith)) in
    ((λ has. law.0 (sym c.is_one.ensures ∙ has)), (λ there. c.is_one.ensures ∙ law.1 there))
