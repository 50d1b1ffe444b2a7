-- Bits in words of 64: bit b of the universe stands in word b / 64, at place b % 64.
use Rattle.std.specs.Prelude.{◌≡◌, ℕ, ◌+◌, ◌-◌, ◌*◌, ◌/◌, ◌%◌, ◌^◌, ◌<◌, ◌≤◌, Bool, true, false, ◌&&◌, ◌||◌, ◌==◌, nat_le, min, List, length}
use Rattle.std.specs.Prelude.{slice_index}
use Rattle.std.specs.Int.{bit_at}

-- place i of a word is 1
unfoldable pub has_bit : ℕ → ℕ → Bool
has_bit word i = bit_at word i == 1

-- each place of mask that is 1, as a place of the universe's word w, is a bit of lo..hi
abbrev pub MaskLiesWithin : ℕ → ℕ → ℕ → ℕ → Type 0
MaskLiesWithin lo hi w mask =
    (i : ℕ) → i < 64 → has_bit mask i ≡ true → (lo ≤ 64 * w + i) × (64 * w + i < hi)

-- how many words hold the bits lo..hi
abbrev pub word_count : ℕ → ℕ → ℕ
word_count lo hi = (hi + 63) / 64 - lo / 64

-- word w of the set of all bits in lo..hi
unfoldable pub range_mask : ℕ → ℕ → ℕ → ℕ
range_mask lo hi w = 2 ^ (min 64 (hi - 64 * w)) - 2 ^ (min 64 (lo - 64 * w))

-- bit b of the universe is 1 in words whose first is word number first
unfoldable pub words_have : List ℕ → ℕ → ℕ → Bool
words_have words first b = has_bit (slice_index words (b / 64 - first)) (b % 64)

-- place i of the universe's word w is 1 in masks, whose first word is number first
unfoldable pub masks_have : List ℕ → ℕ → ℕ → ℕ → Bool
masks_have masks first w i = nat_le first w && has_bit (slice_index masks (w - first)) i

-- words hold a set within lo..hi, and 0 at each place outside it
pub record AreRowWords (lo hi : ℕ) (words : List ℕ) : Type 0 where
  pub ordered : lo ≤ hi
  pub count : length words ≡ word_count lo hi
  pub clear_below : (k i : ℕ) → i < 64 → 64 * (lo / 64 + k) + i < lo → has_bit (slice_index words k) i ≡ false
  pub clear_above : (k i : ℕ) → i < 64 → hi ≤ 64 * (lo / 64 + k) + i → has_bit (slice_index words k) i ≡ false

-- each place of new's words is f of that place in old's and in source's
abbrev pub CombinesPlaces : (Bool → Bool → Bool) → List ℕ → List ℕ → List ℕ → Type 0
CombinesPlaces f old source new =
    (k i : ℕ) → k < length new → i < 64
    → has_bit (slice_index new k) i ≡ f (has_bit (slice_index old k) i) (has_bit (slice_index source k) i)

-- each place of new's words is f of that place in old's
abbrev pub MapsPlaces : (Bool → Bool) → List ℕ → List ℕ → Type 0
MapsPlaces f old new =
    (k i : ℕ) → k < length new → i < 64 → has_bit (slice_index new k) i ≡ f (has_bit (slice_index old k) i)

-- each place of new's words is what it is in old's
abbrev pub SamePlaces : List ℕ → List ℕ → Type 0
SamePlaces = MapsPlaces (λ bit. bit)

-- new's words are old's, with each place outside lo..hi cleared
abbrev pub IsTrimmed : ℕ → ℕ → List ℕ → List ℕ → Type 0
IsTrimmed lo hi old new =
    (k i : ℕ) → k < length new → i < 64
    → has_bit (slice_index new k) i ≡ (has_bit (slice_index old k) i && has_bit (range_mask lo hi (lo / 64 + k)) i)

-- each place of new's words, the first of which is number base, is 1 where it is in old's or in masks
abbrev pub AddsPlaces : ℕ → List ℕ → ℕ → List ℕ → List ℕ → Type 0
AddsPlaces base old first masks new =
    (k i : ℕ) → k < length new → i < 64
    → has_bit (slice_index new k) i ≡ (has_bit (slice_index old k) i || masks_have masks first (base + k) i)
