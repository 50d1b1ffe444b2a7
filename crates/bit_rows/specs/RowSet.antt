-- What a contract sees of a `Row`: a set of bits within a range.
use Rattle.std.specs.Prelude.{◌≡◌, ℕ, ◌+◌, ◌-◌, ◌*◌, ◌/◌, ◌%◌, ◌<◌, Bool, true, false, ◌&&◌, ◌||◌, not, ◌==◌, nat_le, List, length, map}
use Rattle.std.specs.Prelude.{slice_index_or}
use Rattle.std.specs.List.{range_with_len}
use Rattle.bit_rows.specs.Words.{has_bit, masks_have}

-- the first bit of the range, and for each bit from there on whether it is in the set
pub record RowSet : Type 0 where
  pub lo : ℕ
  pub members : List Bool

-- the end of the range: one more than its last bit
unfoldable pub hi_of : RowSet → ℕ
hi_of s = s.lo + length s.members

-- bit b is in the set; no bit outside the range is
unfoldable pub contains : RowSet → ℕ → Bool
contains s b = nat_le s.lo b && slice_index_or s.members (b - s.lo) false

-- the bits of lo..hi at which f is true
unfoldable pub set_of : ℕ → ℕ → (ℕ → Bool) → RowSet
set_of lo hi f = record { lo = lo; members = map f (range_with_len lo (hi - lo)) }

-- a set's range is start..end
pub record HasRange (s : RowSet) (start end : ℕ) : Type 0 where
  pub lo : s.lo ≡ start
  pub hi : hi_of s ≡ end

-- word is word w of a set: its places are the bits from 64 * w on
abbrev pub IsWordOf : RowSet → ℕ → ℕ → Type 0
IsWordOf s w word = (i : ℕ) → i < 64 → has_bit word i ≡ contains s (64 * w + i)

-- no bit of lo..hi
unfoldable pub empty_set : ℕ → ℕ → RowSet
empty_set lo hi = set_of lo hi (λ _. false)

-- each bit of lo..hi
unfoldable pub full_set : ℕ → ℕ → RowSet
full_set lo hi = set_of lo hi (λ _. true)

-- s and bit b too
unfoldable pub with_bit : RowSet → ℕ → RowSet
with_bit s b = set_of s.lo (hi_of s) (λ c. contains s c || c == b)

-- s and the bits of the universe's word w that are 1 in mask
unfoldable pub with_word : RowSet → ℕ → ℕ → RowSet
with_word s w mask =
    set_of s.lo (hi_of s) (λ c. contains s c || (c / 64 == w && has_bit mask (c % 64)))

-- s and the bits of the universe's words from first on that are 1 in masks
unfoldable pub with_words : RowSet → ℕ → List ℕ → RowSet
with_words s first masks =
    set_of s.lo (hi_of s) (λ c. contains s c || masks_have masks first (c / 64) (c % 64))

-- the bits of lo..hi that are in s
unfoldable pub part_of : RowSet → ℕ → ℕ → RowSet
part_of s lo hi = set_of lo hi (contains s)

-- the bits in s or in t
unfoldable pub union : RowSet → RowSet → RowSet
union s t = set_of s.lo (hi_of s) (λ b. contains s b || contains t b)

-- the bits in s and in t
unfoldable pub intersection : RowSet → RowSet → RowSet
intersection s t = set_of s.lo (hi_of s) (λ b. contains s b && contains t b)

-- the bits in s and not in t
unfoldable pub difference : RowSet → RowSet → RowSet
difference s t = set_of s.lo (hi_of s) (λ b. contains s b && not (contains t b))

-- the bits of the range that are not in s
unfoldable pub complement : RowSet → RowSet
complement s = set_of s.lo (hi_of s) (λ b. not (contains s b))
