-- Lists whose elements rise by a number: cut by it, and told apart by their pieces.
use Rattle.std.proofs.Common.{◌≡◌, refl, ℕ, zero, suc, ◌+◌, ◌<◌, ◌≤◌, Bool, true, false, List, [], ◌∷◌, ◌++◌, cond, filter, flat_map, nat_le, nat_lt}
use Rattle.std.proofs.Common.{◌&&◌, sym, ap, ◌∙◌, subst, arith, ◌⊎◌, inl, inr}
use Rattle.std.specs.List.{range_with_len}
use Rattle.std.proofs.lemmas.Bool.{cases_lt, lt-ltb, le-ltb, le-leb, lt-leb}

-- the number of each is at least that of the one before it, and that of the first is not below `low`
abbrev pub Rises : {A : Type 0} → (A → ℕ) → ℕ → List A → Type 0
Rises f low [] = Unit {0}
Rises f low (x ∷ xs) = (low ≤ f x) × Rises f (f x) xs

abbrev pub Below : {A : Type 0} → (A → ℕ) → ℕ → List A → Type 0
Below f high [] = Unit {0}
Below f high (x ∷ xs) = (f x < high) × Below f high xs

abbrev pub between : {A : Type 0} → (A → ℕ) → ℕ → ℕ → A → Bool
between f low high x = nat_le low (f x) && nat_lt (f x) high

pub rises_from : {A : Type 0} (f : A → ℕ) (low lower : ℕ) (xs : List A) → lower ≤ low → Rises f low xs → Rises f lower xs
rises_from f low lower [] le up = tt
rises_from f low lower (x ∷ xs) le up = (let h : low ≤ f x = up.0 in omega (arith, h), up.1)

pub below_more : {A : Type 0} (f : A → ℕ) (high higher : ℕ) (xs : List A) → high ≤ higher → Below f high xs → Below f higher xs
below_more f high higher [] le below = tt
below_more f high higher (x ∷ xs) le below = (let h : f x < high = below.0 in omega (arith, h), below_more f high higher xs le below.1)

-- one element at a time
filter_same : {A : Type 0} (p q : A → Bool) (x : A) (xs : List A) → p x ≡ q x → filter p xs ≡ filter q xs → filter p (x ∷ xs) ≡ filter q (x ∷ xs)
filter_same p q x xs here rest = ap (λ b. cond b (x ∷ filter p xs) (filter p xs)) here ∙ ap (λ ys. cond (q x) (x ∷ ys) ys) rest

filter_out : {A : Type 0} (p : A → Bool) (x : A) (xs : List A) → p x ≡ false → filter p (x ∷ xs) ≡ filter p xs
filter_out p x xs out = ap (λ b. cond b (x ∷ filter p xs) (filter p xs)) out

and_false : (b : Bool) → b && false ≡ false
and_false true = refl
and_false false = refl

pub between_below : {A : Type 0} (f : A → ℕ) (low high : ℕ) (x : A) → f x < low → between f low high x ≡ false
between_below f low high x below = ap (λ b. b && nat_lt (f x) high) (lt-leb low (f x) below)

pub between_above : {A : Type 0} (f : A → ℕ) (low high : ℕ) (x : A) → high ≤ f x → between f low high x ≡ false
between_above f low high x above = ap (λ b. nat_le low (f x) && b) (le-ltb (f x) high above) ∙ and_false (nat_le low (f x))

-- where all are at least `mid`
none_between : {A : Type 0} (f : A → ℕ) (low mid from : ℕ) (xs : List A) → mid ≤ from → Rises f from xs → filter (between f low mid) xs ≡ []
none_between f low mid from [] le up = refl
none_between f low mid from (x ∷ xs) le up =
    let above : mid ≤ f x = (let h : from ≤ f x = up.0 in omega (arith, h)) in
    filter_out (between f low mid) x xs (between_above f low mid x above) ∙ none_between f low mid (f x) xs above up.1

all_from : {A : Type 0} (f : A → ℕ) (low mid high from : ℕ) (xs : List A) → low ≤ mid → mid ≤ from → Rises f from xs
    → filter (between f mid high) xs ≡ filter (between f low high) xs
all_from f low mid high from [] lower le up = refl
all_from f low mid high from (x ∷ xs) lower le up =
    let above : mid ≤ f x = (let h : from ≤ f x = up.0 in omega (arith, h)) in
    let above_low : low ≤ f x = omega (arith, above) in
    filter_same (between f mid high) (between f low high) x xs
    (ap (λ b. b && nat_lt (f x) high) (le-leb mid (f x) above ∙ sym (le-leb low (f x) above_low)))
    (all_from f low mid high (f x) xs lower above up.1)

-- two pieces, one behind the other, are one
pub join_pieces : {A : Type 0} (f : A → ℕ) (low mid high from : ℕ) (xs : List A) → low ≤ mid → mid ≤ high → Rises f from xs
    → filter (between f low mid) xs ++ filter (between f mid high) xs ≡ filter (between f low high) xs
join_pieces f low mid high from [] lower higher up = refl
join_pieces f low mid high from (x ∷ xs) lower higher up = by_case (join_pieces f low mid high (f x) xs lower higher up.1) (cases_lt (f x) mid)
  where
    by_case : filter (between f low mid) xs ++ filter (between f mid high) xs ≡ filter (between f low high) xs → (f x < mid) ⊎ (mid ≤ f x)
        → filter (between f low mid) (x ∷ xs) ++ filter (between f mid high) (x ∷ xs) ≡ filter (between f low high) (x ∷ xs)
    by_case rest (inl below) =
        let less : f x < high = omega (arith, below) in
        let same : between f low mid x
        ≡ between f low high x = ap (λ b. nat_le low (f x) && b) (lt-ltb (f x) mid below ∙ sym (lt-ltb (f x) high less)) in
        ap (λ ys. filter (between f low mid) (x ∷ xs) ++ ys) (filter_out (between f mid high) x xs (between_below f mid high x below))
        ∙ ap (λ b. cond b (x ∷ filter (between f low mid) xs) (filter (between f low mid) xs) ++ filter (between f mid high) xs) same
        ∙ onto (between f low high x)
      where
        onto : (b : Bool) → cond b (x ∷ filter (between f low mid) xs) (filter (between f low mid) xs) ++ filter (between f mid high) xs
            ≡ cond b (x ∷ filter (between f low high) xs) (filter (between f low high) xs)
        onto true = ap (λ ys. x ∷ ys) rest
        onto false = rest
    by_case rest (inr above) =
        ap (λ ys. ys ++ filter (between f mid high) (x ∷ xs)) (none_between f low mid mid (x ∷ xs) (omega arith) (above, up.1))
        ∙ all_from f low mid high mid (x ∷ xs) lower (omega arith) (above, up.1)

no_piece : {A : Type 0} (f : A → ℕ) (low : ℕ) (xs : List A) → filter (between f low low) xs ≡ []
no_piece f low [] = refl
no_piece f low (x ∷ xs) = filter_out (between f low low) x xs (by_case (cases_lt (f x) low)) ∙ no_piece f low xs
  where
    by_case : (f x < low) ⊎ (low ≤ f x) → between f low low x ≡ false
    by_case (inl below) = between_below f low low x below
    by_case (inr above) = between_above f low low x above

rises_far : (cut : ℕ → ℕ) → ((j : ℕ) → cut j ≤ cut (j + 1)) → (j k : ℕ) → cut j ≤ cut (j + k)
rises_far cut rise j zero = let e : j + 0 ≡ j = omega arith in subst (λ n. cut j ≤ cut n) (sym e) (omega arith)
rises_far cut rise j (suc k) =
    let e : j + k + 1 ≡ j + suc k = omega arith in
    let a : cut j ≤ cut (j + k) = rises_far cut rise j k in
    let b : cut (j + k) ≤ cut (j + k + 1) = rise (j + k) in
    subst (λ n. cut j ≤ cut n) e (omega (arith, a, b))

-- all pieces of a cut
pub pieces : {A : Type 0} (f : A → ℕ) (cut : ℕ → ℕ) (rise : (j : ℕ) → cut j ≤ cut (j + 1)) (from : ℕ) (xs : List A) → Rises f from xs
    → (first count : ℕ)
    → flat_map (λ j. filter (between f (cut j) (cut (j + 1))) xs) (range_with_len first count)
    ≡ filter (between f (cut first) (cut (first + count))) xs
pieces f cut rise from xs up first zero =
    let e : first ≡ first + 0 = omega arith in
    subst (λ n. [] ≡ filter (between f (cut first) (cut n)) xs) e (sym (no_piece f (cut first) xs))
pieces f cut rise from xs up first (suc count) =
    let e : first + 1 + count ≡ first + suc count = omega arith in
    ap (λ ys. filter (between f (cut first) (cut (first + 1))) xs ++ ys) (pieces f cut rise from xs up (first + 1) count)
    ∙ join_pieces f (cut first) (cut (first + 1)) (cut (first + 1 + count)) from xs (rise first) (rises_far cut rise (first + 1) count) up
    ∙ ap (λ n. filter (between f (cut first) (cut n)) xs) e

-- below a bound all are kept
pub kept_below : {A : Type 0} (f : A → ℕ) (high : ℕ) (xs : List A) → Below f high xs → filter (between f 0 high) xs ≡ xs
kept_below f high [] below = refl
kept_below f high (x ∷ xs) below =
    ap (λ b. cond b (x ∷ filter (between f 0 high) xs) (filter (between f 0 high) xs)) (ap (λ b. nat_le 0 (f x) && b) (lt-ltb (f x) high below.0)
    ∙ ap (λ b. b && true) (le-leb 0 (f x) (omega arith)))
    ∙ ap (λ ys. x ∷ ys) (kept_below f high xs below.1)

total : {A : Type 0} → (A → ℕ) → List A → ℕ
total f [] = 0
total f (x ∷ xs) = f x + total f xs

below_total : {A : Type 0} (f : A → ℕ) (high : ℕ) (xs : List A) → total f xs < high → Below f high xs
unfolding total
below_total f high [] less = tt
below_total f high (x ∷ xs) less = (omega (arith, less), below_total f high xs (omega (arith, less)))

-- Two lists that rise are the same where they have the same elements of each number, in the same order.
pub told_by_pieces : {A : Type 0} (f : A → ℕ) (xs ys : List A) → Rises f 0 xs → Rises f 0 ys
    → ((j : ℕ) → filter (between f j (j + 1)) xs ≡ filter (between f j (j + 1)) ys) → xs ≡ ys
told_by_pieces f xs ys up other same =
    let high : ℕ = total f xs + total f ys + 1 in
    let e : 0 + high ≡ high = omega arith in
    sym (kept_below f high xs (below_total f high xs (omega arith)))
    ∙ ap (λ n. filter (between f 0 n) xs) (sym e)
    ∙ sym (pieces f (λ j. j) (λ j. omega arith) 0 xs up 0 high)
    ∙ (λ i. flat_map (λ j. same j i) (range_with_len 0 high))
    ∙ pieces f (λ j. j) (λ j. omega arith) 0 ys other 0 high
    ∙ ap (λ n. filter (between f 0 n) ys) e
    ∙ kept_below f high ys (below_total f high ys (omega arith))
