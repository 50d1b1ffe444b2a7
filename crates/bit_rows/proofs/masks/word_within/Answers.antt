use Rattle.std.proofs.Common.{arith}
use Rattle.bit_rows.proofs.words.MaskBits.{has_bit-between, between-range_mask}
use Rattle.bit_rows.proofs.masks.word_within.Goals as goal

pub returns : goal.returns
returns c =
    let a = c.args in record {
      value = between-range_mask a.lo a.hi a.word c.word_below-2.result c.word_below.result (omega arith) (omega arith) c.word_below-2.ensures
          c.word_below.ensures;
      places = has_bit-between a.lo a.hi a.word c.word_below-2.result c.word_below.result (omega arith) (omega arith) c.word_below-2.ensures
          c.word_below.ensures;
    }
