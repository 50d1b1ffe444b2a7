-- Numbers that rise, cut by the parts of a report.
use Rattle.std.proofs.Common.{◌≡◌, lit<, ℕ, zero, suc, ◌+◌, ◌-◌, ◌*◌, ◌/◌, ◌<◌, ◌≤◌, Bool, true, false, cond, List, [], ◌∷◌, filter, flat_map}
use Rattle.std.proofs.Common.{ap, ◌∙◌, arith}
use Rattle.std.specs.List.{range_with_len}
use Rattle.std.proofs.Math.Nat.{div-mul-le_self, mul-div_cancel_left, mul-le-mul_right, zero-div, zero-mul}
use Rattle.std.proofs.lemmas.Nat.{le-div}
use Rattle.part_texts.proofs.Rising.{Below, Rises, between, kept_below, pieces, rises_from}
use Rattle.flow_parts.specs.Cuts.{cut_end, group_of, groups_of, is_in_cut}

div_rises : (a b k : ℕ) → 0 < k → a ≤ b → a / k ≤ b / k
div_rises a b k some le =
    let under : a / k * k ≤ a = div-mul-le_self a k in
    le-div (a / k) b k some (omega (arith, under, le))

cut_rises : (groups count j : ℕ) → 0 < count → cut_end groups count (j - 1) ≤ cut_end groups count (j + 1 - 1)
cut_rises groups count j some = div_rises ((j - 1) * groups) ((j + 1 - 1) * groups) count some (mul-le-mul_right groups (omega arith))

-- the numbers of groups rise with those of bits, and none is too large
rises_by_group : (low from : ℕ) (xs : List ℕ) → from ≤ low / 512 → Rises (λ x. x) low xs → Rises group_of from xs
rises_by_group low from [] le up = tt
rises_by_group low from (x ∷ xs) le up =
    let more : low / 512 ≤ x / 512 = div_rises low x 512 (lit< tt) up.0 in
    (omega (arith, le, more), rises_by_group x (x / 512) xs (omega arith) up.1)

group_below : (bit bits : ℕ) → bit < bits → group_of bit < groups_of bits
group_below bit bits below =
    let under : bit / 512 * 512 ≤ bit = div-mul-le_self bit 512 in
    let least : bit / 512 + 1 ≤ (bits + 511) / 512 = le-div (bit / 512 + 1) (bits + 511) 512 (lit< tt) (omega (arith, under, below)) in
    omega (arith, least)

groups_below : (bits : ℕ) (xs : List ℕ) → Below (λ x. x) bits xs → Below group_of (groups_of bits) xs
groups_below bits [] below = tt
groups_below bits (x ∷ xs) below = (group_below x bits below.0, groups_below bits xs below.1)

-- Numbers that rise are those of all parts, part by part.
pub whole : (bits count : ℕ) (xs : List ℕ) → 0 < count → Rises (λ x. x) 0 xs → Below (λ x. x) bits xs
    → flat_map (λ part. filter (is_in_cut bits count part) xs) (range_with_len 1 count) ≡ xs
whole bits count xs some up below =
    let groups : ℕ = groups_of bits in
    let next : (j : ℕ) → j ≡ j + 1 - 1 = λ j. omega arith in
    let first : cut_end groups count (1 - 1) ≡ 0 = ap (λ n. n / count) (zero-mul groups) ∙ zero-div count in
    let all : 1 + count - 1 ≡ count = omega arith in
    let last : cut_end groups count (1 + count - 1) ≡ groups = ap (λ n. n * groups / count) all ∙ mul-div_cancel_left groups some in
    (λ i. flat_map (λ j. filter (between group_of (cut_end groups count (j - 1)) (cut_end groups count (next j i))) xs) (range_with_len 1 count))
    ∙ pieces group_of (λ j. cut_end groups count (j - 1)) (λ j. cut_rises groups count j some) 0 xs (rises_by_group 0 0 xs (omega arith) up) 1 count
    ∙ (λ i. filter (between group_of (first i) (last i)) xs)
    ∙ kept_below group_of groups xs (groups_below bits xs below)

-- the numbers of a range that pass a test
pub rises_range : (test : ℕ → Bool) (low a n : ℕ) → low ≤ a → Rises (λ x. x) low (filter test (range_with_len a n))
rises_range test low a zero le = tt
rises_range test low a (suc n) le = by (test a) (rises_range test a (a + 1) n (omega arith))
  where
    by : (b : Bool) → Rises (λ x. x) a (filter test (range_with_len (a + 1) n))
        → Rises (λ x. x) low (cond b (a ∷ filter test (range_with_len (a + 1) n)) (filter test (range_with_len (a + 1) n)))
    by true rest = (le, rest)
    by false rest = rises_from (λ x. x) a low (filter test (range_with_len (a + 1) n)) le rest

pub below_range : (test : ℕ → Bool) (high a n : ℕ) → a + n ≤ high → Below (λ x. x) high (filter test (range_with_len a n))
below_range test high a zero le = tt
below_range test high a (suc n) le = by (test a) (below_range test high (a + 1) n (omega (arith, le)))
  where
    by : (b : Bool) → Below (λ x. x) high (filter test (range_with_len (a + 1) n))
        → Below (λ x. x) high (cond b (a ∷ filter test (range_with_len (a + 1) n)) (filter test (range_with_len (a + 1) n)))
    by true rest = (omega (arith, le), rest)
    by false rest = rest
