-- How a table stands to its board.
use Rattle.std.specs.Prelude.{◌≡◌}
use Rattle.flow_graph.specs.Points.{point_count}
use Rattle.flow_graph.specs.Problems.{MayForm}
use Rattle.flow_graph.specs.Universes.{bits}
use Rattle.gk_solve.specs.Solved.{HasPathFlags}
use Rattle.slice_board.specs.Boards.{BoardState, board_points}

-- The board wants all sets of an analysis, at all points, and its flags are the path flags.
pub record IsTableBoard (form : MayForm) (board : BoardState MayForm) : Type 0 where
  pub wanted : board.wanted ≡ form
  pub points : board_points board ≡ point_count form.program
  pub bits : board.cut.bits ≡ bits form.program form.analysis
  pub paths : HasPathFlags form board.blank.flags
