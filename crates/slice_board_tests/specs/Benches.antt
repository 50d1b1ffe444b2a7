-- What the tests know of a board and of a worker.
use Rattle.std.specs.Prelude.{◌≡◌, ℕ, ◌≤◌, ◌<◌, true, List, length}
use Rattle.bit_rows.specs.RowSet.{contains}
use Rattle.bit_rows.specs.RowTable.{RowTable, set_at}
use Rattle.slice_board.specs.Boards.{BoardState}
use Rattle.slice_board.specs.Passes.{IsLogged}
use Rattle.slice_board.specs.declared.view.LoggedWord.{LoggedWord}

-- the board has the points and the bits of these sets
pub record IsFor {T : Type 0} (board : BoardState T) (rows : RowTable) : Type 0 where
  pub low : rows.lo ≡ 0
  pub points : length board.blank.flags ≡ length rows.flags
  pub bits : board.cut.bits ≡ rows.hi

-- what the worker noted was posted with its pass
abbrev pub AreNoted : RowTable → List LoggedWord → Type 0
AreNoted mine posted = (point bit : ℕ) → contains (set_at mine point) bit ≡ true → IsLogged posted point bit

-- each wanted bit of lo..hi is among the others
abbrev pub Covers : RowTable → RowTable → ℕ → ℕ → Type 0
Covers wanted mine lo hi = (point bit : ℕ) → lo ≤ bit → bit < hi → contains (set_at wanted point) bit ≡ true → contains (set_at mine point) bit ≡ true
