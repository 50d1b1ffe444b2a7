use Rattle.std.proofs.Common.{◌<◌, ◌+◌, arith, subst, sym}
use Rattle.bit_rows.specs.RowTable.{RowTable}
use Rattle.flow_rows.specs.code.Rows.{IsInWords, IsPut}
use Rattle.flow_rows.proofs.words.RowWords.{masks_are, put_more}
use Rattle.flow_rows.proofs.filling.put_words.Goals as goal

pub loop-point-preserved : goal.loop-point-preserved
loop-point-preserved c =
    subst (λ (rows : RowTable). IsPut (λ point b. (point < c.loop-point.point + 1) × IsInWords c.args.slice.now point b) c.args.rows.now rows)
    (sym c.or_words.ensures)
    (put_more (IsInWords c.args.slice.now) c.args.rows.now c.loop-point.rows c.loop-point.point
    _ _ (omega (arith, c.requires.points, c.loop-point-test.true, c.points-point-end.ensures)) c.loop-point.invariant
    (λ b low high. masks_are c.args.slice.now c.loop-point.point _ _ c.words_at-first.ensures.first c.words_at-first.ensures.count
    c.words_at-first.ensures.words b))
