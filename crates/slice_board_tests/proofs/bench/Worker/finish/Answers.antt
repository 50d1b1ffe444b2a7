use Rattle.std.proofs.Common.{◌<◌, length, sym, subst}
use Rattle.bit_rows.specs.Slices.{Slices}
use Rattle.slice_board.specs.Boards.{about_board}
use Rattle.slice_board_tests.proofs.bench.Worker.finish.Goals as goal

pub range-lo-requires : goal.range-lo-requires
range-lo-requires c = subst (λ (cut : Slices). c.in_ok-slice.slice < length cut.ends) (sym c.cut.ensures)
    (c.in_ok-slice.ensures.there (about_board c.args.board.now) c.requires.of.about)
