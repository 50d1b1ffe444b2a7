-- What a contract sees of a pass: its four lists, its two records, its share of the board, and what it holds.
use Rattle.std.specs.Prelude.{◌≡◌, ℕ, ◌+◌, ◌*◌, ◌/◌, ◌%◌, ◌^◌, ◌<◌, List, [], ◌∷◌, ◌++◌, ◌&&◌, ◌==◌, if◌then◌else◌, max, Option, Some, None}
use Rattle.std.specs.Int.{bit_at}
use Rattle.atomic_table.specs.Seated.{TableId}
use Rattle.slice_board.specs.declared.view.About.{About}
use Rattle.slice_board.specs.declared.view.LoggedWord.{LoggedWord}
use Rattle.slice_board.specs.declared.view.Count.{Count}

-- The lists and records of a pass. They only ever grow, each by one entry a step.
pub record PassState (T : Type 0) : Type 0 where
  -- the table of its board, and what it knows of that board
  pub table : TableId
  pub about : Option (About T)
  -- the slices that it claimed, and those that it finished
  pub claimed : List ℕ
  pub finished : List ℕ
  -- the bits that it posted, and the words that it saw
  pub posted : List LoggedWord
  pub seen : List LoggedWord
  -- the slices whose claim bit a draw of this pass found set, and the done words that it loaded
  pub found : List ℕ
  pub counted : List Count
  -- The pass has `share / 2 ^ halvings` of the board: all of it where the board was opened, half of what it had after a split.
  pub share : ℕ
  pub halvings : ℕ
  -- the claimed slice that is not finished, if there is one, and the next slice to try
  pub held : Option ℕ
  pub next : ℕ

-- how often x stands in a list
abbrev pub times : ℕ → List ℕ → ℕ
times x [] = 0
times x (y ∷ ys) = (if y == x then 1 else 0) + times x ys

-- how many marks of a point's word have the place
abbrev pub logged_at : ℕ → ℕ → ℕ → List LoggedWord → ℕ
logged_at point word place [] = 0
logged_at point word place (m ∷ ms) =
    (if (m.point == point) && (m.word == word) then bit_at m.bits place else 0) + logged_at point word place ms

-- some logged_word has the bit of the point
abbrev pub IsLogged : List LoggedWord → ℕ → ℕ → Type 0
IsLogged marks point bit = 0 < logged_at point (bit / 64) (bit % 64) marks

-- bits of a word of a point's row
abbrev pub logged_word : ℕ → ℕ → ℕ → LoggedWord
logged_word point word bits = record { point = point; word = word; bits = bits }

-- 1 where the slice is the one that is held
abbrev pub held_times : ℕ → Option ℕ → ℕ
held_times s (Some h) = if h == s then 1 else 0
held_times s None = 0

-- what is held is what was claimed and is not finished
abbrev pub HoldsUnfinished : {T : Type 0} → PassState T → Type 0
HoldsUnfinished pass =
    (s : ℕ) → times s pass.claimed ≡ times s pass.finished + held_times s pass.held

-- It has the whole board: no other pass can still claim or hold a slice.
abbrev pub IsWhole : {T : Type 0} → PassState T → Type 0
IsWhole pass = pass.share ≡ 2 ^ pass.halvings

-- what is left of a pass after a split, which gives the other half of its share to the new pass
abbrev pub halved : {T : Type 0} → PassState T → PassState T
halved pass = record pass { halvings = pass.halvings + 1 }

-- the one that is there
abbrev pub either_of : Option ℕ → Option ℕ → Option ℕ
either_of (Some s) other = Some s
either_of None other = other

-- two passes as one: the lists one after the other, both shares together, and what either holds
abbrev pub joined : {T : Type 0} → PassState T → PassState T → PassState T
joined first second = record first {
  claimed = first.claimed ++ second.claimed;
  finished = first.finished ++ second.finished;
  posted = first.posted ++ second.posted;
  seen = first.seen ++ second.seen;
  found = first.found ++ second.found;
  counted = first.counted ++ second.counted;
  share = first.share * 2 ^ second.halvings + second.share * 2 ^ first.halvings;
  halvings = first.halvings + second.halvings;
  held = either_of first.held second.held;
  next = max first.next second.next;
}

-- loads of the done words from number `first` on, which found these values
abbrev pub loads_from : ℕ → List ℕ → List Count
loads_from first [] = []
loads_from first (value ∷ values) = record { word = first; bits = value } ∷ loads_from (first + 1) values
