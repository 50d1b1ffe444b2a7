use Rattle.std.proofs.Common.{arith}
use Rattle.slice_board_tests.proofs.sets.Benching.{in_range, noted_word}
use Rattle.slice_board_tests.proofs.bench.note.Goals as goal

pub or_word-requires-clause-mask : goal.or_word-requires-clause-mask
or_word-requires-clause-mask c i within set =
    let range = in_range c.args.wanted.now c.args.point _ c.points-then-point-points.ensures.uniform (c.requires i within set) in
    let low = range.0 in
    let high = range.1 in
    let lo = c.lo.ensures in
    let lo2 = c.lo-2.ensures in
    let hi = c.hi.ensures in
    let hi2 = c.hi-then-lo.ensures in
    (omega (arith, c.if-lo.true), omega (arith, c.if-hi.true))

pub returns-then-point-points-2 : goal.returns-then-point-points-2
returns-then-point-points-2 c p b has =
    noted_word c.args.mine.now c.or_word.new.self c.args.point c.args.word c.args.mask c.points.ensures.uniform
    (omega (arith, c.if-point-points.true, c.points.ensures.count)) c.or_word.ensures.value p b has
