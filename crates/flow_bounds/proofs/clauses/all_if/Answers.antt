use Rattle.std.proofs.Common.{sym, ◌∙◌}
use Rattle.bit_rows.proofs.words.WordBits.{has_bit-max, has_bit-zero}
use Rattle.flow_bounds.proofs.clauses.all_if.Goals as goal

pub returns-then-test : goal.returns-then-test
returns-then-test c bit small = has_bit-max bit small ∙ sym c.if-test.true

pub returns-else-test : goal.returns-else-test
returns-else-test c bit small = has_bit-zero bit ∙ sym c.if-test.false
