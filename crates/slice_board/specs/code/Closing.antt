-- What the loops that close a board have done so far.
use Rattle.std.specs.Prelude.{◌≡◌, ℕ, zero, suc, ◌+◌, ◌*◌, ◌/◌, ◌%◌, ◌<◌, ◌≤◌, ◌⊎◌, ◌↔◌, min, List, ◌++◌, length, slice_index, true}
use Rattle.std.specs.Int.{bit_at}
use Rattle.bit_rows.specs.RowSet.{contains}
use Rattle.bit_rows.specs.RowTable.{RowTable, IsUniform, set_at, with_set}
use Rattle.slice_board.specs.Passes.{PassState, IsWhole, times, loads_from}
use Rattle.slice_board.specs.Boards.{CountsOnce, words_for, shown_below}

-- how many of the lowest n places of a word are 1
abbrev pub ones_below : ℕ → ℕ → ℕ
ones_below zero word = 0
ones_below (suc n) word = ones_below n word + bit_at word n

-- the slice is finished by the values of the done words
abbrev pub shown_in : List ℕ → ℕ → ℕ
shown_in values s = bit_at (slice_index values (s / 64)) (s % 64)

-- A count of the finished slices by one load of each done word. It has those that the pass finished, and not what it holds. A pass with the
-- whole board learns that it claimed each slice that it found taken.
pub record Counted {T : Type 0} (slices : ℕ) (old new : PassState T) (done : ℕ) : Type 0 where
  pub once : CountsOnce slices old.counted new.counted done
  pub has_finished : (s : ℕ) → s < slices → 0 < times s old.finished → shown_in once.values s ≡ 1
  pub lacks_held : (s : ℕ) → s < slices → times s old.finished < times s old.claimed → shown_in once.values s ≡ 0
  pub found_own : IsWhole old → (s : ℕ) → s < slices → 0 < times s old.found → 0 < times s old.claimed

-- The same of the first n done words.
pub record CountedTo {T : Type 0} (slices n : ℕ) (old new : PassState T) (done : ℕ) : Type 0 where
  pub values : List ℕ
  pub each_word : length values ≡ n
  pub added : new.counted ≡ old.counted ++ loads_from 0 values
  pub shown : done ≡ shown_below (min (64 * n) slices) values
  pub has_finished : (s : ℕ) → s < slices → s < 64 * n → 0 < times s old.finished → shown_in values s ≡ 1
  pub lacks_held : (s : ℕ) → s < slices → s < 64 * n → times s old.finished < times s old.claimed → shown_in values s ≡ 0
  pub found_own : IsWhole old → (s : ℕ) → s < slices → s < 64 * n → 0 < times s old.found → 0 < times s old.claimed

-- bit `bit` of the row whose first word stands at `from`, and each further one `apart` words behind the one before
abbrev pub row_bit : List ℕ → ℕ → ℕ → ℕ → ℕ
row_bit words from apart bit = bit_at (slice_index words (from + bit / 64 * apart)) (bit % 64)

-- no bit of the row's words lies past the universe; they stand as far apart as there are points
abbrev pub RowLiesWithin : RowTable → List ℕ → ℕ → Type 0
RowLiesWithin rows words from = (bit : ℕ) → bit / 64 < words_for rows.hi → row_bit words from (length rows.flags) bit ≡ 1 → bit < rows.hi

abbrev pub RowsLieWithin : RowTable → List ℕ → ℕ → Type 0
RowsLieWithin rows words from = (point : ℕ) → point < length rows.flags → RowLiesWithin rows words (from + point)

-- the point's set has the bits of the first n of its words besides what it had, and no other set is changed
pub record IsPutIn (words : List ℕ) (from point n : ℕ) (old new : RowTable) : Type 0 where
  pub uniform : IsUniform new
  pub others : new ≡ with_set old point (set_at new point)
  pub bits : (bit : ℕ) → bit < old.hi
      → (contains (set_at new point) bit ≡ true)
      ↔ ((contains (set_at old point) bit ≡ true) ⊎ ((bit / 64 < n) × (row_bit words from (length old.flags) bit ≡ 1)))

-- the sets of the first n points have exactly the bits of their words, and the others are as they were
pub record ArePutIn (words : List ℕ) (from n : ℕ) (old new : RowTable) : Type 0 where
  pub uniform : IsUniform new
  pub lo : new.lo ≡ old.lo
  pub hi : new.hi ≡ old.hi
  pub flags : new.flags ≡ old.flags
  pub bits : (point bit : ℕ) → point < n → bit < old.hi
      → (contains (set_at new point) bit ≡ true) ↔ (row_bit words (from + point) (length old.flags) bit ≡ 1)
  pub left : (point : ℕ) → n ≤ point → set_at new point ≡ set_at old point
