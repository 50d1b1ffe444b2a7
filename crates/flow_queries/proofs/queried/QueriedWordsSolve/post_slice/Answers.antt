use Rattle.std.proofs.Common.{◌<◌, ◌/◌, ◌∙◌, ℕ, sym, ap, subst, arith}
use Rattle.bit_rows.specs.Slices.{Slices, end_of, start_of}
use Rattle.bit_rows.proofs.slices.Cuts.{end_le_bits}
use Rattle.slice_board.specs.Boards.{slice_count}
use Rattle.flow_queries.specs.code.Cuts.{AreAlike}
use Rattle.flow_queries.proofs.queried.QueriedWordsSolve.post_slice.Goals as goal

pub post_range-requires-clause-some : goal.post_range-requires-clause-some
post_range-requires-clause-some c = omega (arith, c.range-lo.ensures.nonempty, c.words_for.ensures)

pub post_range-requires-clause-until : goal.post_range-requires-clause-until
post_range-requires-clause-until c =
    let same = c.cut-cut.ensures in
    let there = subst (λ (cut : Slices). c.args.slice < slice_count cut) (sym same) c.requires.there in
    let most = end_le_bits c.cut-cut.result.now c.slices.ensures.cover c.args.slice there in
    omega (arith, most, c.range-lo.ensures.end, ap (λ (cut : Slices). cut.bits) same, c.requires.on.words, c.words_for.ensures)

pub post_range-requires-clause-one : goal.post_range-requires-clause-one
post_range-requires-clause-one c = λ j low high.
    let same = c.cut-cut.ensures in
    let start = c.range-lo.ensures.start ∙ ap (λ (cut : Slices). start_of cut c.args.slice) same in
    let end = c.range-lo.ensures.end ∙ ap (λ (cut : Slices). end_of cut c.args.slice) same in
    subst (λ (first : ℕ). AreAlike c.args.self.now.order (first / 64) j) (sym start)
    (c.requires.on.apart c.args.slice j c.requires.there (omega (arith, start, low)) (omega (arith, end, high, c.words_for.ensures)))
