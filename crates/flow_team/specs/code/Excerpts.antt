-- The sets of an analysis at some points, and how they lie on a board.
use Rattle.std.specs.Prelude.{◌≡◌, ◌↔◌, ℕ, ◌+◌, ◌<◌, ◌≤◌, Bool, true, false, List, length, slice_index_or}
use Rattle.flow_graph.specs.Points.{point_count}
use Rattle.flow_graph.specs.Problems.{MayForm}
use Rattle.flow_graph.specs.Universes.{bits}
use Rattle.flow_team.specs.Sets.{HasMayPath, IsInMaySet}
use Rattle.slice_board.specs.Boards.{BoardState, board_points}

-- an analysis in its may form, at so many points, from the first on
pub record Excerpt : Type 0 where
  pub form : MayForm
  pub first : ℕ
  pub count : ℕ

-- The bit is in the may form's set at the point, which is counted from the first on.
abbrev pub IsInExcerpt : Excerpt → ℕ → ℕ → Type 0
IsInExcerpt excerpt point bit = (point < excerpt.count) × IsInMaySet excerpt.form (excerpt.first + point) bit

-- one flag for each point from the first on, set exactly where some valid path leads to it
pub record HasFlagsFrom (form : MayForm) (first : ℕ) (flags : List Bool) : Type 0 where
  pub within : first + length flags ≤ point_count form.program
  pub flag : (point : ℕ) → point < length flags → (slice_index_or flags point false ≡ true) ↔ HasMayPath form (first + point)

-- The board wants the sets of the excerpt, and its flags are the path flags.
pub record IsExcerptBoard (excerpt : Excerpt) (board : BoardState Excerpt) : Type 0 where
  pub wanted : board.wanted ≡ excerpt
  pub points : board_points board ≡ excerpt.count
  pub bits : board.cut.bits ≡ bits excerpt.form.program excerpt.form.analysis
  pub paths : HasFlagsFrom excerpt.form excerpt.first board.blank.flags
