use Rattle.std.proofs.Common.{arith}
use Rattle.slice_board.specs.code.Words.{about_key}
use Rattle.slice_board.proofs.passes.Keeps.{splits}
use Rattle.slice_board.proofs.passes.Passing.{sits}
use Rattle.slice_board.proofs.word_board.WordBoard.split.Goals as goal

pub split_seat-requires : goal.split_seat-requires
split_seat-requires g c =
    let wide = c.self.invariant.wide in (
      sits c.self.invariant c.self.view_is c.pass.view_is c.requires,
      omega arith,
      splits g.T.Wanted.wants (about_key c.self.inside.table.shared.key) _ c.pass.inside.seat.me.0,
    )
