-- Numbers of a range, from the first one on
use Rattle.std.proofs.Common.{◌≡◌, ℕ, zero, suc, ◌+◌, ◌-◌, ◌<◌, ◌≤◌, Bool, true, false, ◌||◌, List, [], ◌∷◌, ◌++◌, Some, None, unwrap_or}
use Rattle.std.proofs.Common.{◌⊎◌, inl, inr, cond, refl, ap, subst, ◌∙◌, arith}
use Rattle.std.proofs.Math.Nat.{eq-or-lt_of_le}
use Rattle.std.specs.List.{filter, find, list_any, range_with_len}
use Rattle.flow_texts.proofs.sets.RangeLines.{range_split}

-- the first of them, and the others
pub range_first : (first end : ℕ) → first < end → range_with_len first (end - first) ≡ first ∷ range_with_len (first + 1) (end - (first + 1))
range_first first end below =
    let more : end - first ≡ suc (end - (first + 1)) = omega (arith, below) in
    ap (range_with_len first) more

-- no number
pub range_none : (first end : ℕ) → end ≤ first → range_with_len first (end - first) ≡ []
range_none first end above =
    let none : end - first ≡ 0 = omega (arith, above) in
    ap (range_with_len first) none

-- one more at the end
pub range_last : (first n : ℕ) → first ≤ n → range_with_len first (n + 1 - first) ≡ range_with_len first (n - first) ++ n ∷ []
range_last first n above =
    let longer : n + 1 - first ≡ n - first + 1 = omega (arith, above) in
    let here : first + (n - first) ≡ n = omega (arith, above) in
    ap (range_with_len first) longer ∙ range_split first (n - first) 1 ∙ ap (λ k. range_with_len first (n - first) ++ k ∷ []) here

-- the first number that passes a test
pub find_here : (test : ℕ → Bool) (first end : ℕ) → first < end → test first ≡ true → find test (range_with_len first (end - first)) ≡ Some first
find_here test first end below is =
    ap (find test) (range_first first end below)
    ∙ ap (λ (b : Bool). cond b (Some first) (find test (range_with_len (first + 1) (end - (first + 1))))) is

pub find_later : (test : ℕ → Bool) (first end : ℕ) → first < end → test first ≡ false
    → find test (range_with_len first (end - first)) ≡ find test (range_with_len (first + 1) (end - (first + 1)))
find_later test first end below is =
    ap (find test) (range_first first end below)
    ∙ ap (λ (b : Bool). cond b (Some first) (find test (range_with_len (first + 1) (end - (first + 1))))) is

pub find_none : (test : ℕ → Bool) (first end : ℕ) → end ≤ first → find test (range_with_len first (end - first)) ≡ None
find_none test first end above = ap (find test) (range_none first end above)

-- it is one of them, or the number behind
pub found_within : (test : ℕ → Bool) (first n end : ℕ) → first + n ≤ end
    → (first ≤ unwrap_or (find test (range_with_len first n)) end) × (unwrap_or (find test (range_with_len first n)) end ≤ end)
found_within test first zero end room = (omega (arith, room), omega arith)
found_within test first (suc n) end room = by_test (test first) (found_within test (first + 1) n end (omega (arith, room)))
  where
    by_test : (b : Bool)
        → (first + 1 ≤ unwrap_or (find test (range_with_len (first + 1) n)) end) × (unwrap_or (find test (range_with_len (first + 1) n)) end ≤ end)
        → (first ≤ unwrap_or (cond b (Some first) (find test (range_with_len (first + 1) n))) end)
        × (unwrap_or (cond b (Some first) (find test (range_with_len (first + 1) n))) end ≤ end)
    by_test true rest = (omega arith, omega (arith, room))
    by_test false rest = (omega (arith, rest.0), rest.1)

-- whether any passes
pub any_first : (test : ℕ → Bool) (first end : ℕ) → first < end
    → list_any test (range_with_len first (end - first)) ≡ (test first || list_any test (range_with_len (first + 1) (end - (first + 1))))
any_first test first end below = ap (list_any test) (range_first first end below)

any-append : (test : ℕ → Bool) (xs : List ℕ) (x : ℕ) → list_any test (xs ++ x ∷ []) ≡ (list_any test xs || test x)
any-append test [] x = or_false (test x)
  where
    or_false : (b : Bool) → (b || false) ≡ b
    or_false true = refl
    or_false false = refl
any-append test (y ∷ ys) x = ap (λ b. test y || b) (any-append test ys x) ∙ regroup (test y) (list_any test ys) (test x)
  where
    regroup : (a b d : Bool) → (a || (b || d)) ≡ ((a || b) || d)
    regroup true b d = refl
    regroup false b d = refl

pub any_last : (test : ℕ → Bool) (first n : ℕ) → first ≤ n
    → list_any test (range_with_len first (n + 1 - first)) ≡ (list_any test (range_with_len first (n - first)) || test n)
any_last test first n above = ap (list_any test) (range_last first n above) ∙ any-append test (range_with_len first (n - first)) n

-- and no number before it passes
pub found_before : (test : ℕ → Bool) (first n end k : ℕ) → end ≤ first + n → first ≤ k → k < unwrap_or (find test (range_with_len first n)) end
    → test k ≡ false
found_before test first zero end k room from to = absurd (omega (arith, room, from, to))
found_before test first (suc n) end k room from to = by_test (test first) refl to (eq-or-lt_of_le from)
    (found_before test (first + 1) n end k (omega (arith, room)))
  where
    by_test : (b : Bool) → test first ≡ b → k < unwrap_or (cond b (Some first) (find test (range_with_len (first + 1) n))) end
        → (first ≡ k) ⊎ (first < k)
        → (first + 1 ≤ k → k < unwrap_or (find test (range_with_len (first + 1) n)) end → test k ≡ false) → test k ≡ false
    by_test true is to at rest = absurd (omega (arith, from, to))
    by_test false is to (inl same) rest = subst (λ (m : ℕ). test m ≡ false) same is
    by_test false is to (inr above) rest = rest (omega (arith, above)) to

-- what was found passes
pub found_passes : (test : ℕ → Bool) (first n end : ℕ)
    → (unwrap_or (find test (range_with_len first n)) end ≡ end) ⊎ (test (unwrap_or (find test (range_with_len first n)) end) ≡ true)
found_passes test first zero end = inl refl
found_passes test first (suc n) end = by_test (test first) refl (found_passes test (first + 1) n end)
  where
    by_test : (b : Bool) → test first ≡ b
        → (unwrap_or (find test (range_with_len (first + 1) n)) end ≡ end) ⊎ (test (unwrap_or (find test (range_with_len (first + 1) n)) end) ≡ true)
        → (unwrap_or (cond b (Some first) (find test (range_with_len (first + 1) n))) end ≡ end)
        ⊎ (test (unwrap_or (cond b (Some first) (find test (range_with_len (first + 1) n))) end) ≡ true)
    by_test true is rest = inr is
    by_test false is rest = rest

-- numbers that fail are left out
pub filter_skip : (test : ℕ → Bool) (first n end : ℕ) → first + n ≤ end → ((k : ℕ) → first ≤ k → k < first + n → test k ≡ false)
    → filter test (range_with_len first (end - first)) ≡ filter test (range_with_len (first + n) (end - (first + n)))
filter_skip test first zero end room none =
    let same : first ≡ first + zero = omega arith in
    ap (λ (a : ℕ). filter test (range_with_len a (end - a))) same
filter_skip test first (suc n) end room none =
    let here : test first ≡ false = none first (omega arith) (omega arith) in
    let far : first + 1 + n ≡ first + suc n = omega arith in
    ap (filter test) (range_first first end (omega (arith, room)))
    ∙ ap (λ (b : Bool). cond b (first ∷ filter test (range_with_len (first + 1) (end - (first + 1))))
    (filter test (range_with_len (first + 1) (end - (first + 1))))) here
    ∙ filter_skip test (first + 1) n end (omega (arith, room)) (λ k from to. none k (omega (arith, from)) (omega (arith, to)))
    ∙ ap (λ (a : ℕ). filter test (range_with_len a (end - a))) far
