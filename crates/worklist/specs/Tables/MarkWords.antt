-- A set of points as words of 64 bits: the bit of a point is that of its rank.
use Rattle.std.specs.Prelude.{◌≡◌, ℕ, ◌+◌, ◌*◌, ◌/◌, ◌%◌, ◌<◌, ◌≤◌, ◌^◌, Bool, true, false, List, length, map, slice_index}
use Rattle.bit_rows.specs.Words.{has_bit}

-- the bit of a rank
unfoldable pub is_marked_in : List ℕ → ℕ → Bool
is_marked_in words rank = has_bit (slice_index words (rank / 64)) (rank % 64)

-- each point's bit, by the points' ranks
unfoldable pub marks_of : List ℕ → List ℕ → List Bool
marks_of words ranks = map (is_marked_in words) ranks

-- the words have room for so many bits and for no further word, and no bit behind them is set
pub record AreMarkWords (bits : ℕ) (words : List ℕ) : Type 0 where
  pub few : bits ≤ 2 ^ 31
  pub room : bits ≤ 64 * length words
  pub full : 64 * length words < bits + 64
  pub above : (x : ℕ) → bits ≤ x → is_marked_in words x ≡ false

-- the words' first bits are set, so many, and no other
abbrev pub AreFull : ℕ → List ℕ → Type 0
AreFull bits words = ((x : ℕ) → x < bits → is_marked_in words x ≡ true) × ((x : ℕ) → bits ≤ x → is_marked_in words x ≡ false)
