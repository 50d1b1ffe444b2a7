-- Sets of bits within a range, by their bits.
use Rattle.std.proofs.Common.{◌≡◌, ℕ, ◌+◌, ◌-◌, ◌<◌, ◌≤◌, Bool, false, ◌&&◌, leb, List, get_or, map, refl, sym, ap, ap₂, ◌∙◌, arith}
use Rattle.std.specs.List.{range_with_len}
use Rattle.std.proofs.lemmas.List.{ext_get_or, get_or_past}
use Rattle.std.proofs.lemmas.List.FromFn.{length-map-range_with_len, get_or-map-range_with_len}
use Rattle.std.proofs.lemmas.Bool.{le-leb, lt-leb, and_left, and_right}
use Rattle.bit_rows.specs.RowSet.{RowSet, HasRange, hi_of, contains, set_of}

-- ---- a set by its bits
within_range : (s : RowSet) (b : ℕ) → s.lo ≤ b → contains s b ≡ get_or s.members (b - s.lo) false
unfolding contains
within_range s b low = ap (λ t. t && get_or s.members (b - s.lo) false) (le-leb s.lo b low)

-- no bit below the range is in a set
pub contains-below : (s : RowSet) (b : ℕ) → b < s.lo → contains s b ≡ false
unfolding contains
contains-below s b below = and_left (leb s.lo b) (get_or s.members (b - s.lo) false) (lt-leb s.lo b below)

-- no bit above the range is in a set
pub contains-above : (s : RowSet) (b : ℕ) → hi_of s ≤ b → contains s b ≡ false
unfolding contains hi_of
contains-above s b above =
    and_right (leb s.lo b) (get_or s.members (b - s.lo) false) (get_or_past s.members (b - s.lo) false (omega arith))

same_parts : (s t : RowSet) → s.lo ≡ t.lo → s.members ≡ t.members → s ≡ t
same_parts s t p q =
    let make : ℕ → List Bool → RowSet = λ lo members. record { lo = lo; members = members } in
    ap₂ make p q

-- two sets with one range and the same bits are equal
pub same_from_contains : (s t : RowSet) → HasRange s t.lo (hi_of t) → ((b : ℕ) → s.lo ≤ b → b < hi_of s → contains s b ≡ contains t b) → s ≡ t
unfolding hi_of
same_from_contains s t range same =
    let low = range.lo in
    same_parts s t low (ext_get_or false s.members t.members (omega (arith, range.hi)) (λ i within.
    let back : s.lo + i - s.lo ≡ i = omega arith in
    let back_t : s.lo + i - t.lo ≡ i = omega arith in
    ap (λ j. get_or s.members j false) (sym back)
    ∙ sym (within_range s (s.lo + i) (omega arith))
    ∙ same (s.lo + i) (omega arith) (omega arith)
    ∙ within_range t (s.lo + i) (omega arith)
    ∙ ap (λ j. get_or t.members j false) back_t))

-- ---- a set made from a test
pub lo-set_of : (lo hi : ℕ) (f : ℕ → Bool) → (set_of lo hi f).lo ≡ lo
unfolding set_of
lo-set_of lo hi f = refl

pub hi_of-set_of : (lo hi : ℕ) (f : ℕ → Bool) → lo ≤ hi → hi_of (set_of lo hi f) ≡ hi
unfolding set_of hi_of
hi_of-set_of lo hi f ordered = omega (arith, length-map-range_with_len f lo (hi - lo))

pub contains-set_of : (lo hi : ℕ) (f : ℕ → Bool) (b : ℕ) → lo ≤ b → b < hi → contains (set_of lo hi f) b ≡ f b
unfolding set_of
contains-set_of lo hi f b low high =
    within_range (set_of lo hi f) b low
    ∙ get_or-map-range_with_len f lo (hi - lo) (b - lo) b false (omega arith) (omega arith)

-- tests that agree on the range make one set
pub same_set_of : (lo hi : ℕ) (f g : ℕ → Bool) → ((b : ℕ) → lo ≤ b → b < hi → f b ≡ g b) → set_of lo hi f ≡ set_of lo hi g
unfolding set_of
same_set_of lo hi f g same =
    same_parts (set_of lo hi f) (set_of lo hi g) refl
    (ext_get_or false (map f (range_with_len lo (hi - lo))) (map g (range_with_len lo (hi - lo)))
    (length-map-range_with_len f lo (hi - lo) ∙ sym (length-map-range_with_len g lo (hi - lo)))
    (λ i within.
    let inside : i < hi - lo = omega (arith, within, length-map-range_with_len f lo (hi - lo)) in
    get_or-map-range_with_len f lo (hi - lo) i (lo + i) false inside refl
    ∙ same (lo + i) (omega arith) (omega arith)
    ∙ sym (get_or-map-range_with_len g lo (hi - lo) i (lo + i) false inside refl)))

pub ordered_range : (s : RowSet) → s.lo ≤ hi_of s
unfolding hi_of
ordered_range s = omega arith

-- a set is made from the test whether it has a bit
pub set_of-contains : (s : RowSet) → set_of s.lo (hi_of s) (contains s) ≡ s
set_of-contains s = same_from_contains (set_of s.lo (hi_of s) (contains s)) s
    (record { lo = lo-set_of s.lo (hi_of s) (contains s); hi = hi_of-set_of s.lo (hi_of s) (contains s) (ordered_range s) })
    (λ b low high. contains-set_of s.lo (hi_of s) (contains s) b
    (omega (arith, low, lo-set_of s.lo (hi_of s) (contains s)))
    (omega (arith, high, hi_of-set_of s.lo (hi_of s) (contains s) (ordered_range s))))
