use Rattle.std.proofs.Common.{suc, arith}
use mathlib.Core.Logic.{dite}
use native.Mathlib.Decide.{dec_le}
use Rattle.std.proofs.lemmas.Bool.{both_ways}
use Rattle.bit_rows.specs.RowSet.{contains}
use Rattle.bit_rows.specs.RowTable.{set_at}
use Rattle.slice_board_tests.proofs.sets.Benching.{past_point}
use Rattle.slice_board_tests.proofs.bench.covers.Goals as goal

pub returns : goal.returns
returns c all p b low high has =
    let rows = c.args.wanted.now in
    let count = c.points.ensures.uniform.count in
    let end = c.points-point-end.ensures.count in
    let test = c.loop-point-test.false in
    dite (dec_le (suc p) c.loop-point.point)
    (λ near. c.loop-point.invariant p b (omega arith) low high has)
    (λ far. absurd (both_ways (contains (set_at rows p) b) (past_point rows p b (omega arith)) has))
