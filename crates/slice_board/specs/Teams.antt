-- What a worker's call does with its pass.
use Rattle.std.specs.List.{range_with_len}
use Rattle.std.specs.Prelude.{◌≡◌, ℕ, ◌+◌, ◌-◌, ◌*◌, ◌^◌, ◌<◌, ◌≤◌, List, [], ◌∷◌, ◌++◌, Some, None}
use Rattle.slice_board.specs.Boards.{BoardState, InSlice, IsOf, slice_count}
use Rattle.slice_board.specs.Passes.{PassState, IsLogged, times}
use Rattle.slice_board.specs.declared.view.About.{About}
use Rattle.slice_board.specs.declared.view.LoggedWord.{LoggedWord}

module _ {T : Type 0} where
  -- The pass has as much of the board as it had.
  pub record KeepsShare (old new : PassState T) : Type 0 where
    pub share : new.share ≡ old.share
    pub halvings : new.halvings ≡ old.halvings

  -- Two passes have as much of the board, in parts that may be larger or smaller.
  abbrev pub HaveSameShare : PassState T → PassState T → Type 0
  HaveSameShare first second = first.share * 2 ^ second.halvings ≡ second.share * 2 ^ first.halvings

  -- What was finished, posted, seen and counted stands, and nothing came to it.
  pub record Keeps (old new : PassState T) : Type 0 where
    pub kept_share : KeepsShare old new
    pub finished : new.finished ≡ old.finished
    pub posted : new.posted ≡ old.posted
    pub seen : new.seen ≡ old.seen
    pub counted : new.counted ≡ old.counted

  -- The pass is as it was, but for marks that were posted.
  pub record PostsMore (old new : PassState T) : Type 0 where
    pub more : List LoggedWord
    pub same : new ≡ record old { posted = old.posted ++ more }

  -- The slice that was held is taken up again: nothing is drawn.
  pub record Resumes (old new : PassState T) : Type 0 where
    pub claimed : new.claimed ≡ old.claimed
    pub found : new.found ≡ old.found
    pub next : new.next ≡ old.next

  -- The slice was drawn: the pass had not claimed it before, and found claimed each slice from the next one up to it.
  pub record Draws (old new : PassState T) (slice : ℕ) : Type 0 where
    pub behind : old.next ≤ slice
    pub fresh : times slice old.claimed ≡ 0
    pub claimed : new.claimed ≡ old.claimed ++ slice ∷ []
    pub found : new.found ≡ old.found ++ range_with_len old.next (slice - old.next)
    pub next : new.next ≡ slice + 1

  -- The slice was held before, or was drawn by the call.
  pub record Takes (old new : PassState T) (slice : ℕ) : Type 0 where
    pub was_held : (held : ℕ) → old.held ≡ Some held → (held ≡ slice) × Resumes old new
    pub drawn : old.held ≡ None → Draws old new slice

  -- The slice was taken, all that is wanted of it is posted, and it alone was finished. What was posted, seen and counted before stands.
  pub record Works (wants : T → ℕ → ℕ → Type 0) (board : BoardState T) (old new : PassState T) (slice : ℕ) : Type 0 where
    pub there : slice < slice_count board.cut
    pub kept_share : KeepsShare old new
    pub taken : Takes old new slice
    pub more : List LoggedWord
    pub posted : new.posted ≡ old.posted ++ more
    pub whole : (point bit : ℕ) → wants board.wanted point bit → InSlice board.cut slice bit → IsLogged new.posted point bit
    pub seen : new.seen ≡ old.seen
    pub counted : new.counted ≡ old.counted
    pub finished : new.finished ≡ old.finished ++ slice ∷ []
    pub free : new.held ≡ None

  -- There was nothing to do: the pass held no slice, and found claimed all that it had not tried before. Each slice is now among those that
  -- it claimed or found claimed.
  pub record Idles (board : BoardState T) (old new : PassState T) : Type 0 where
    pub keeps : Keeps old new
    pub was_free : old.held ≡ None
    pub free : new.held ≡ None
    pub claimed : new.claimed ≡ old.claimed
    pub found : new.found ≡ old.found ++ range_with_len old.next (slice_count board.cut - old.next)
    pub next : new.next ≡ slice_count board.cut
    pub all_claimed : (slice : ℕ) → slice < slice_count board.cut → 0 < times slice new.claimed + times slice new.found

  -- Memory was refused: nothing was posted, and the slice is held.
  pub record Holds (old new : PassState T) : Type 0 where
    pub keeps : Keeps old new
    pub slice : ℕ
    pub held : new.held ≡ Some slice
    pub taken : Takes old new slice

  -- No slice is left: the pass is of the board and holds none, what it claimed it finished, and each slice is among those that it claimed or
  -- found claimed.
  pub record IsDrained (board : BoardState T) (pass : PassState T) : Type 0 where
    pub of : IsOf board pass
    pub free : pass.held ≡ None
    pub finished : (slice : ℕ) → times slice pass.finished ≡ times slice pass.claimed
    pub all_claimed : (slice : ℕ) → slice < slice_count board.cut → 0 < times slice pass.claimed + times slice pass.found

  -- A slice that the pass finished, of those of its board.
  pub record HasFinished (pass : PassState T) (slice : ℕ) : Type 0 where
    pub there : (about : About T) × (pass.about ≡ Some about) × (slice < slice_count about.cut)
    pub finished : 0 < times slice pass.finished
