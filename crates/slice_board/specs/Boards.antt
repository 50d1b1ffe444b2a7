-- What a contract sees of a board, and which passes are of it.
use Rattle.std.specs.Prelude.{◌≡◌, ℕ, zero, suc, ◌+◌, ◌/◌, ◌%◌, ◌<◌, ◌≤◌, List, [], ◌++◌, length, slice_index, Some, None}
use Rattle.std.specs.Int.{bit_at}
use Rattle.atomic_table.specs.Seated.{TableId}
use Rattle.bit_rows.specs.Slices.{Slices, start_of, end_of}
use Rattle.bit_rows.specs.RowTable.{RowTable}
use Rattle.slice_board.specs.declared.view.About.{About}
use Rattle.slice_board.specs.declared.view.Count.{Count}
use Rattle.slice_board.specs.Passes.{PassState, loads_from}

-- The table that threads share, the value whose sets are wanted, how the bits are cut, and the rows that are
-- handed out when the board closes.
pub record BoardState (T : Type 0) : Type 0 where
  pub table : TableId
  pub wanted : T
  pub cut : Slices
  pub blank : RowTable

-- how many slices there are
abbrev pub slice_count : Slices → ℕ
slice_count cut = length cut.ends

-- how many words of 64 bits hold so many bits
abbrev pub words_for : ℕ → ℕ
words_for bits = (bits + 63) / 64

-- the bit lies in the slice
abbrev pub InSlice : Slices → ℕ → ℕ → Type 0
InSlice cut s bit = (start_of cut s ≤ bit) × (bit < end_of cut s)

module _ {T : Type 0} where
  -- how many points the board has
  abbrev pub board_points : BoardState T → ℕ
  board_points board = length board.blank.flags

  -- the point and the word of its row are on the board
  abbrev pub IsPlace : BoardState T → ℕ → ℕ → Type 0
  IsPlace board point word = (point < board_points board) × (word < words_for board.cut.bits)

  -- what each pass of the board knows of it
  abbrev pub about_board : BoardState T → About T
  about_board board = record { wanted = board.wanted; points = board_points board; cut = board.cut }

  -- the pass is of the board
  pub record IsOf (board : BoardState T) (pass : PassState T) : Type 0 where
    pub table : pass.table ≡ board.table
    pub about : pass.about ≡ Some (about_board board)

  -- the pass that comes with the board, which has all of it, with empty lists
  abbrev pub fresh_pass : BoardState T → PassState T
  fresh_pass board = record {
    table = board.table;
    about = Some (about_board board);
    claimed = [];
    finished = [];
    posted = [];
    seen = [];
    found = [];
    counted = [];
    share = 1;
    halvings = 0;
    held = None;
    next = 0;
  }

  -- the new pass that a split makes: half of the share, and empty lists
  abbrev pub split_pass : BoardState T → PassState T → PassState T
  split_pass board old = record (fresh_pass board) { share = old.share; halvings = old.halvings + 1 }

-- how many of the slices below n the values of the done words show as finished
abbrev pub shown_below : ℕ → List ℕ → ℕ
shown_below zero values = 0
shown_below (suc n) values = shown_below n values + bit_at (slice_index values (n / 64)) (n % 64)

-- One load of each done word, in order, is added to the loads, and these show that `done` of the slices are finished.
pub record CountsOnce (slices : ℕ) (old new : List Count) (done : ℕ) : Type 0 where
  pub values : List ℕ
  pub each_word : length values ≡ words_for slices
  pub added : new ≡ old ++ loads_from 0 values
  pub shown : done ≡ shown_below slices values
