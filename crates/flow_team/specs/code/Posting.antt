-- How far a slice's words are posted.
use Rattle.std.specs.Prelude.{◌≡◌, ◌↔◌, ℕ, ◌+◌, ◌*◌, ◌/◌, ◌<◌, ◌≤◌, true, List}
use Rattle.bit_rows.specs.Words.{has_bit}
use Rattle.flow_graph.specs.Points.{point_count}
use Rattle.flow_team.specs.Sets.{IsInColumns}
use Rattle.gen_kill.specs.Selections.{Selection}
use Rattle.gk_solve.specs.Solved.{SliceTable, word_at}
use Rattle.slice_board.specs.Teams.{PostsMore}
use Rattle.slice_board.specs.Boards.{BoardState, IsOf, board_points}
use Rattle.slice_board.specs.declared.view.LoggedWord.{LoggedWord}
use Rattle.slice_board.specs.Passes.{PassState, IsLogged}

-- What is wanted of the bits lo..hi is posted, at the points and words that are done.
abbrev pub IsPosted : (ℕ → ℕ → Type 0) → ℕ → ℕ → (ℕ → ℕ → Type 0) → List LoggedWord → Type 0
IsPosted wanted lo hi done posted =
    (point bit : ℕ) → wanted point bit → lo ≤ bit → bit < hi → done point (bit / 64) → IsLogged posted point bit

-- The words that were solved tell, at a point of theirs, of the slice's bits exactly what is wanted at a point of a board.
abbrev pub TellPoint : (ℕ → ℕ → Type 0) → SliceTable → ℕ → ℕ → Type 0
TellPoint wanted slice point at = (word k : ℕ) → slice.from ≤ word → word < slice.until → k < 64
    → (has_bit (word_at slice at word) k ≡ true) ↔ ((slice.lo ≤ 64 * word + k) × (64 * word + k < slice.hi) × wanted point (64 * word + k))

-- What is wanted are the selected bits at the board's points, which are so many of the program, from the first on. The board has the bits
-- before one, and the pass is one of the board's.
pub record CanPost {T : Type 0} (wanted : ℕ → ℕ → Type 0) (selection : Selection) (first count hi : ℕ) (board : BoardState T) (pass : PassState T)
    : Type 0 where
  pub wants : (point bit : ℕ) → wanted point bit ↔ ((point < count) × IsInColumns selection (first + point) bit)
  pub points : board_points board ≡ count
  pub there : first + count ≤ point_count selection.program
  pub within : hi ≤ board.cut.bits
  pub of : IsOf board pass

-- What is wanted of the bits lo..hi is posted, as far as it is in words before one, and nothing else came to the pass than what was posted.
pub record HasPosted {T : Type 0} (wanted : ℕ → ℕ → Type 0) (lo hi word : ℕ) (old new : PassState T) : Type 0 where
  pub more : PostsMore old new
  pub posted : IsPosted wanted lo hi (λ _ w. w < word) new.posted
