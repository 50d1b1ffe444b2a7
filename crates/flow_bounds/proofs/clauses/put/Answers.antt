use Rattle.std.proofs.Common.{sym, ap, ◌∙◌}
use Rattle.bit_rows.specs.Words.{has_bit}
use Rattle.bit_rows.proofs.words.WordBits.{has_bit-zero}
use Rattle.flow_bounds.specs.Clauses.{cell_count}
use Rattle.flow_bounds.specs.code.Frames.{RuleClause}
use Rattle.flow_bounds.proofs.telling.Adding.{adds_nothing}
use Rattle.flow_bounds.proofs.clauses.put.Goals as goal

pub returns-then-mask-eq0 : goal.returns-then-mask-eq0
returns-then-mask-eq0 c =
    let none = c.if-mask-eq0.true in
    adds_nothing (cell_count c.args.frame.now) (RuleClause (record { to = c.args.to; first = c.args.first; second = c.args.second; mask = c.args.mask }))
    c.args.rules.now.items (λ bit to first second is. cc (sym (has_bit-zero bit) ∙ (ap (λ w. has_bit w bit) (sym none) ∙ is.3)))
