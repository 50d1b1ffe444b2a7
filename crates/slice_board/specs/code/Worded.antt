-- Sets whose words stand in a table of words.
use Rattle.std.specs.Prelude.{◌≡◌, ℕ, ◌+◌, ◌*◌, ◌/◌, ◌%◌, ◌^◌, ◌<◌, ◌≤◌, Bool, false, List, length, map, slice_index}
use Rattle.std.specs.List.{range_with_len}
use Rattle.bit_rows.specs.RowSet.{RowSet, set_of}
use Rattle.bit_rows.specs.RowTable.{RowTable, table}
use Rattle.bit_rows.specs.Words.{has_bit}
use Rattle.slice_board.specs.Boards.{words_for}

-- the set of the bits below the last whose words are these
abbrev pub worded_set : ℕ → (ℕ → ℕ) → RowSet
worded_set bits words = set_of 0 bits (λ b. has_bit (words (b / 64)) (b % 64))

-- a flag and a set for each point, the sets by the words of each point
abbrev pub worded_table : ℕ → List Bool → (ℕ → ℕ → ℕ) → RowTable
worded_table bits flags words = table 0 bits flags (map (λ point. worded_set bits (words point)) (range_with_len 0 (length flags)))

-- A word of a point, where the first words of all points stand side by side from `first` on, then their second words, and so on.
abbrev pub word_of : List ℕ → ℕ → ℕ → ℕ → ℕ → ℕ
word_of words first points point word = slice_index words (first + point + word * points)

-- There are so few points that a number of 32 bits counts them. Each word of each is there, and is 0 past the last bit.
pub record ArePosted (words : List ℕ) (count first points bits : ℕ) : Type 0 where
  pub few : points < 2 ^ 32
  pub room : first + points * words_for bits ≤ count
  pub clear : (point word k : ℕ) → point < points → word < words_for bits → k < 64 → bits ≤ 64 * word + k
      → has_bit (word_of words first points point word) k ≡ false
