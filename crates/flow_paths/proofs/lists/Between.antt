-- Numbers that stand side by side in a list
use Rattle.std.proofs.Common.{◌≡◌, ◌∙◌, ℕ, ◌+◌, ◌-◌, ◌<◌, ◌≤◌, List, [], ◌∷◌, ◌++◌, length, map, get_or, slice_index, sym, ap, arith}
use Rattle.std.specs.Prelude.{Contains}
use Rattle.std.specs.List.{range_with_len}
use Rattle.std.proofs.lemmas.List.{map-append}
use Rattle.std.proofs.lemmas.List.FromFn.{get_or-map-range_with_len, length-map-range_with_len}
use Rattle.flow_texts.proofs.sets.RangeLines.{range_split}
use Rattle.flow_paths.specs.code.UnsetPaths.{between}

-- those up to one place, and those behind it
pub between_split : (places : List ℕ) (a b c : ℕ) → a ≤ b → b ≤ c → between places a b ++ between places b c ≡ between places a c
between_split places a b c low high =
    let here : a + (b - a) ≡ b = omega (arith, low) in
    let all : b - a + (c - b) ≡ c - a = omega (arith, low, high) in
    ap (λ k. between places a b ++ map (slice_index places) (range_with_len k (c - b))) (sym here)
    ∙ sym (map-append (slice_index places) (range_with_len a (b - a)) (range_with_len (a + (b - a)) (c - b)))
    ∙ ap (map (slice_index places)) (sym (range_split a (b - a) (c - b)))
    ∙ ap (λ n. map (slice_index places) (range_with_len a n)) all

between_none : (places : List ℕ) (a b : ℕ) → b ≤ a → between places a b ≡ []
between_none places a b low =
    let none : b - a ≡ 0 = omega (arith, low) in
    ap (λ n. map (slice_index places) (range_with_len a n)) none

-- there are none where they begin and end at one place
pub none_between : (places : List ℕ) (a b : ℕ) → a ≡ b → between places a b ≡ []
none_between places a b same = between_none places a b (omega (arith, same))

pub between_one : (places : List ℕ) (n : ℕ) → between places n (n + 1) ≡ slice_index places n ∷ []
between_one places n =
    let one : n + 1 - n ≡ 1 = omega arith in
    ap (λ k. map (slice_index places) (range_with_len n k)) one

-- a place more
pub between_more : (places : List ℕ) (a n : ℕ) → a ≤ n → between places a n ++ slice_index places n ∷ [] ≡ between places a (n + 1)
between_more places a n low =
    ap (λ xs. between places a n ++ xs) (sym (between_one places n)) ∙ between_split places a n (n + 1) low (omega arith)

-- the first of them, and the others
pub between_first : (places : List ℕ) (n b : ℕ) → n < b → between places n b ≡ slice_index places n ∷ between places (n + 1) b
between_first places n b below =
    sym (between_split places n (n + 1) b (omega arith) (omega (arith, below)))
    ∙ ap (λ xs. xs ++ between places (n + 1) b) (between_one places n)

pub length-between : (places : List ℕ) (a b : ℕ) → length (between places a b) ≡ b - a
length-between places a b = length-map-range_with_len (slice_index places) a (b - a)

-- one of them by its number
pub get_or-between : (places : List ℕ) (a b k : ℕ) (d : ℕ) → k < b - a → get_or (between places a b) k d ≡ slice_index places (a + k)
get_or-between places a b k d below =
    let same : a + k ≡ a + k = omega arith in
    get_or-map-range_with_len (slice_index places) a (b - a) k (a + k) d below same

-- each that stands there is among them
pub among_between : (places : List ℕ) (a b j : ℕ) → a ≤ j → j < b → Contains (between places a b) (slice_index places j)
among_between places a b j low high =
    let within : j - a < length (between places a b) = omega (arith, low, high, length-between places a b) in
    let below : j - a < b - a = omega (arith, low, high) in
    let here : a + (j - a) ≡ j = omega (arith, low) in
    (j - a, within, get_or-between places a b (j - a) (slice_index places j) below ∙ ap (slice_index places) here)
