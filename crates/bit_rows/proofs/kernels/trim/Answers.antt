use Rattle.std.proofs.Common.{arith}
use Rattle.bit_rows.proofs.rows.Trim.{trim_both, trim_one}
use Rattle.bit_rows.proofs.kernels.trim.Goals as goal

pub returns-then-last-gt0 : goal.returns-then-last-gt0
returns-then-last-gt0 c =
    let a = c.args in
    trim_both a.lo a.hi a.words.now c.in-Some.last c.word_within.result c.word_within-then-last-gt0.result c.requires.count
    (omega (arith, c.in-Some.ensures)) c.if-last-gt0.true c.word_within.ensures.value c.word_within-then-last-gt0.ensures.value

pub returns-else-last-gt0 : goal.returns-else-last-gt0
returns-else-last-gt0 c =
    let a = c.args in
    trim_one a.lo a.hi a.words.now c.word_within.result (omega (arith, c.in-Some.ensures)) c.word_within.ensures.value
