-- What each operation on sets does to the range and to each bit.
use Rattle.std.proofs.Common.{◌≡◌, ℕ, ◌-◌, ◌/◌, ◌%◌, ◌<◌, ◌≤◌, Bool, true, false, not, ◌&&◌, ◌||◌, List, eqb, refl, sym, ap, ap₂, ◌∙◌, inl, inr}
use Rattle.std.proofs.Common.{arith}
use Rattle.std.proofs.lemmas.List.FromFn.{length-map-range_with_len}
use Rattle.std.proofs.lemmas.Bool.{cases_lt}
use Rattle.bit_rows.specs.Words.{has_bit, masks_have}
use Rattle.bit_rows.specs.RowSet.{RowSet, HasRange, hi_of, contains, set_of, empty_set, full_set, with_bit, with_word, with_words, part_of, union}
use Rattle.bit_rows.specs.RowSet.{intersection, difference, complement}
use Rattle.bit_rows.proofs.sets.RowSets.{lo-set_of, hi_of-set_of, contains-set_of, contains-below, contains-above, ordered_range}

-- ---- ranges
pub HasRange-set_of : (lo hi : ℕ) (f : ℕ → Bool) → lo ≤ hi → HasRange (set_of lo hi f) lo hi
HasRange-set_of lo hi f ordered = record { lo = lo-set_of lo hi f; hi = hi_of-set_of lo hi f ordered }

pub HasRange-empty_set : (lo hi : ℕ) → lo ≤ hi → HasRange (empty_set lo hi) lo hi
unfolding empty_set
HasRange-empty_set lo hi ordered = HasRange-set_of lo hi (λ _. false) ordered

pub HasRange-full_set : (lo hi : ℕ) → lo ≤ hi → HasRange (full_set lo hi) lo hi
unfolding full_set
HasRange-full_set lo hi ordered = HasRange-set_of lo hi (λ _. true) ordered

pub HasRange-part_of : (s : RowSet) (lo hi : ℕ) → lo ≤ hi → HasRange (part_of s lo hi) lo hi
unfolding part_of
HasRange-part_of s lo hi ordered = HasRange-set_of lo hi (contains s) ordered

pub HasRange-with_bit : (s : RowSet) (b : ℕ) → HasRange (with_bit s b) s.lo (hi_of s)
unfolding with_bit
HasRange-with_bit s b = HasRange-set_of s.lo (hi_of s) (λ c. contains s c || eqb c b) (ordered_range s)

pub HasRange-with_word : (s : RowSet) (w mask : ℕ) → HasRange (with_word s w mask) s.lo (hi_of s)
unfolding with_word
HasRange-with_word s w mask = HasRange-set_of s.lo (hi_of s) (λ c. contains s c || (eqb (c / 64) w && has_bit mask (c % 64))) (ordered_range s)

pub HasRange-with_words : (s : RowSet) (first : ℕ) (masks : List ℕ) → HasRange (with_words s first masks) s.lo (hi_of s)
unfolding with_words
HasRange-with_words s first masks = HasRange-set_of s.lo (hi_of s) (λ c. contains s c || masks_have masks first (c / 64) (c % 64)) (ordered_range s)

pub HasRange-union : (s t : RowSet) → HasRange (union s t) s.lo (hi_of s)
unfolding union
HasRange-union s t = HasRange-set_of s.lo (hi_of s) (λ b. contains s b || contains t b) (ordered_range s)

pub HasRange-intersection : (s t : RowSet) → HasRange (intersection s t) s.lo (hi_of s)
unfolding intersection
HasRange-intersection s t = HasRange-set_of s.lo (hi_of s) (λ b. contains s b && contains t b) (ordered_range s)

pub HasRange-difference : (s t : RowSet) → HasRange (difference s t) s.lo (hi_of s)
unfolding difference
HasRange-difference s t = HasRange-set_of s.lo (hi_of s) (λ b. contains s b && not (contains t b)) (ordered_range s)

pub HasRange-complement : (s : RowSet) → HasRange (complement s) s.lo (hi_of s)
unfolding complement
HasRange-complement s = HasRange-set_of s.lo (hi_of s) (λ b. not (contains s b)) (ordered_range s)

-- ---- bits
outside_set_of : (lo hi : ℕ) (f : ℕ → Bool) (b : ℕ) → ((lo ≤ b) × (b < hi) → ⊥) → contains (set_of lo hi f) b ≡ false
unfolding set_of hi_of
outside_set_of lo hi f b outside = elim (cases_lt b lo) [
  | inl below ↦ contains-below (set_of lo hi f) b (omega (arith, below, lo-set_of lo hi f))
  | inr low ↦ elim (cases_lt b hi) [
    | inl high ↦ absurd (outside (low, high))
    | inr above ↦ contains-above (set_of lo hi f) b (omega (arith, low, above, length-map-range_with_len f lo (hi - lo)))
  ]
]

-- a set made from a test that is false outside the range has the bits at which the test is true
pub contains-set_of_any : (lo hi : ℕ) (f : ℕ → Bool) → ((b : ℕ) → b < lo → f b ≡ false) → ((b : ℕ) → hi ≤ b → f b ≡ false) → (b : ℕ)
    → contains (set_of lo hi f) b ≡ f b
contains-set_of_any lo hi f below above b = elim (cases_lt b lo) [
  | inl under ↦ outside_set_of lo hi f b (λ range. omega (arith, range, under)) ∙ sym (below b under)
  | inr low ↦ elim (cases_lt b hi) [
    | inl high ↦ contains-set_of lo hi f b low high
    | inr over ↦ outside_set_of lo hi f b (λ range. omega (arith, range, over)) ∙ sym (above b over)
  ]
]

pub contains-empty_set : (lo hi b : ℕ) → contains (empty_set lo hi) b ≡ false
unfolding empty_set
contains-empty_set lo hi b = contains-set_of_any lo hi (λ _. false) (λ _ _. refl) (λ _ _. refl) b

pub contains-full_set : (lo hi b : ℕ) → lo ≤ b → b < hi → contains (full_set lo hi) b ≡ true
unfolding full_set
contains-full_set lo hi b low high = contains-set_of lo hi (λ _. true) b low high

pub contains-part_of : (s : RowSet) (lo hi b : ℕ) → lo ≤ b → b < hi → contains (part_of s lo hi) b ≡ contains s b
unfolding part_of
contains-part_of s lo hi b low high = contains-set_of lo hi (contains s) b low high

pub contains-with_bit : (s : RowSet) (b c : ℕ) → s.lo ≤ c → c < hi_of s → contains (with_bit s b) c ≡ (contains s c || eqb c b)
unfolding with_bit
contains-with_bit s b c low high = contains-set_of s.lo (hi_of s) (λ d. contains s d || eqb d b) c low high

pub contains-with_word : (s : RowSet) (w mask c : ℕ) → s.lo ≤ c → c < hi_of s
    → contains (with_word s w mask) c ≡ (contains s c || (eqb (c / 64) w && has_bit mask (c % 64)))
unfolding with_word
contains-with_word s w mask c low high =
    contains-set_of s.lo (hi_of s) (λ d. contains s d || (eqb (d / 64) w && has_bit mask (d % 64))) c low high

pub contains-with_words : (s : RowSet) (first : ℕ) (masks : List ℕ) (c : ℕ) → s.lo ≤ c → c < hi_of s
    → contains (with_words s first masks) c ≡ (contains s c || masks_have masks first (c / 64) (c % 64))
unfolding with_words
contains-with_words s first masks c low high =
    contains-set_of s.lo (hi_of s) (λ b. contains s b || masks_have masks first (b / 64) (b % 64)) c low high

pub contains-complement : (s : RowSet) (b : ℕ) → s.lo ≤ b → b < hi_of s → contains (complement s) b ≡ not (contains s b)
unfolding complement
contains-complement s b low high = contains-set_of s.lo (hi_of s) (λ c. not (contains s c)) b low high

module _ (s t : RowSet) (range : HasRange t s.lo (hi_of s)) (b : ℕ) where
  pub contains-union : contains (union s t) b ≡ (contains s b || contains t b)
  unfolding union
  contains-union = contains-set_of_any s.lo (hi_of s) (λ c. contains s c || contains t c)
      (λ c below. ap₂ ◌||◌ (contains-below s c below) (contains-below t c (omega (arith, below, range.lo))))
      (λ c above. ap₂ ◌||◌ (contains-above s c above) (contains-above t c (omega (arith, above, range.hi)))) b

  pub contains-intersection : contains (intersection s t) b ≡ (contains s b && contains t b)
  unfolding intersection
  contains-intersection = contains-set_of_any s.lo (hi_of s) (λ c. contains s c && contains t c)
      (λ c below. ap (λ bit. bit && contains t c) (contains-below s c below))
      (λ c above. ap (λ bit. bit && contains t c) (contains-above s c above)) b

  pub contains-difference : contains (difference s t) b ≡ (contains s b && not (contains t b))
  unfolding difference
  contains-difference = contains-set_of_any s.lo (hi_of s) (λ c. contains s c && not (contains t c))
      (λ c below. ap (λ bit. bit && not (contains t c)) (contains-below s c below))
      (λ c above. ap (λ bit. bit && not (contains t c)) (contains-above s c above)) b
