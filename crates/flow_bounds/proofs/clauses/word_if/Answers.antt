use Rattle.std.proofs.Common.{◌&&◌, sym, ap, ◌∙◌}
use Rattle.bit_rows.specs.Words.{has_bit}
use Rattle.bit_rows.proofs.words.WordBits.{has_bit-zero}
use Rattle.flow_bounds.proofs.clauses.word_if.Goals as goal

pub returns-else-test : goal.returns-else-test
returns-else-test c bit = has_bit-zero bit ∙ ap (λ t. t && has_bit c.args.word bit) (sym c.if-test.false)
