use Rattle.std.proofs.lemmas.Grind.{common_steps}
use Rattle.std.proofs.Common.{◌≡◌, length, ap, arith, rules}
use mathlib.Core.Logic.{dite}
use native.Mathlib.Decide.{dec_le}
use Rattle.std.specs.Vec.{vec_len}
use Rattle.std.proofs.lemmas.Bool.{both_ways}
use Rattle.bit_rows.specs.RowSet.{contains}
use Rattle.bit_rows.specs.RowTable.{RowTable, set_at}
use Rattle.slice_board_tests.proofs.sets.Benching.{in_range, past_point}
use Rattle.slice_board_tests.proofs.bench.open.Goals as goal

pub open-requires-clause-within : goal.open-requires-clause-within
open-requires-clause-within c point bit has =
    let rows = c.args.sets.now.rows in
    let uniform = c.points-points.ensures.uniform in
    let sets = uniform.count in
    let count = c.points-points.ensures.count in
    let bounds = (in_range rows point bit uniform has).1 in
    let bits = c.requires.bits in
    let flags = ap (λ (t : RowTable). length t.flags) c.in_ok-blank.ensures in
    let len : vec_len c.loop-point.flags ≡ length c.loop-point.flags.items = search rules in
    let kept : vec_len c.loop-point.flags ≡ c.loop-point.point = c.loop-point.invariant in
    let test = c.loop-point-test.false in
    let end = c.loop-point.auto.point-end in
    dite (dec_le (length rows.sets) point)
    (λ far. absurd (both_ways (contains (set_at rows point) bit) (past_point rows point bit far) has))
    (λ near. (omega arith, omega arith))

pub loop-point-preserved : goal.loop-point-preserved
loop-point-preserved c = grind (arith, common_steps)
