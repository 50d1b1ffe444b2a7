-- Rows of bits in one block of words, so many words for each row.
use Rattle.std.specs.Prelude.{◌≡◌, ℕ, ◌+◌, ◌*◌, ◌/◌, ◌%◌, ◌≤◌, Bool, false, List, length, get_or}
use Rattle.bit_rows.specs.Words.{has_bit}

-- a row of the block has a bit
abbrev pub table_has : List ℕ → ℕ → ℕ → ℕ → Bool
table_has words width row bit = has_bit (get_or words (row * width + bit / 64) 0) (bit % 64)

-- the row is there
abbrev pub HasRow : List ℕ → ℕ → ℕ → Type 0
HasRow words width row = (row + 1) * width ≤ length words

-- a block of so many rows, each of so many bits, and none is set
pub record IsBlank (rows bits : ℕ) (words : List ℕ) (width : ℕ) : Type 0 where
  pub width_is : width ≡ (bits + 63) / 64
  pub count : length words ≡ rows * width
  pub clear : (row bit : ℕ) → table_has words width row bit ≡ false
