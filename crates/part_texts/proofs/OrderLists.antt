-- Lists in order by a number.
use Rattle.std.proofs.Common.{◌≡◌, refl, ℕ, zero, suc, ◌+◌, ◌<◌, ◌≤◌, ◌==◌, Bool, true, false, not, List, [], ◌∷◌, ◌++◌, cond, if◌then◌else◌, filter}
use Rattle.std.proofs.Common.{map, length, get_or, nat_le, nat_lt, ◌&&◌, sym, ap, ◌∙◌, subst, arith, ◌⊎◌, inl, inr}
use Rattle.std.specs.List.Sorted.{IsNonDecreasingBy, IsStableByKey, ties}
use Rattle.std.specs.Ordering.{is_lt, nat_cmp}
use Rattle.std.specs.declared.cmp.Ordering.TheVariants.{Less, Equal, Greater}
use Rattle.std.proofs.lemmas.Bool.{and_parts, cases_lt, lt-ltb, le-ltb, le-leb, lt-leb, leb-true, ltb-true}
use Rattle.part_texts.specs.Orders.{in_order_by, put_by}
use Rattle.part_texts.proofs.Rising.{Rises, between, between_above, between_below, told_by_pieces}

rises_put : {A : Type 0} (f : A → ℕ) (x : A) (low : ℕ) (ys : List A) → low ≤ f x → Rises f low ys → Rises f low (put_by f x ys)
rises_put f x low [] le up = (le, tt)
rises_put f x low (y ∷ ys) le up = by_case (cases_lt (f y) (f x)) (λ less. rises_put f x (f y) ys (omega (arith, less)) up.1)
  where
    by_case : (f y < f x) ⊎ (f x ≤ f y) → (f y < f x → Rises f (f y) (put_by f x ys)) → Rises f low (put_by f x (y ∷ ys))
    by_case (inl less) rest = subst (λ b. Rises f low (if b then x ∷ y ∷ ys else y ∷ put_by f x ys)) (sym (lt-leb (f x) (f y) less)) (up.0, rest less)
    by_case (inr first) rest = subst (λ b. Rises f low (if b then x ∷ y ∷ ys else y ∷ put_by f x ys)) (sym (le-leb (f x) (f y) first))
        (le, (first, up.1))

pub rises_in_order : {A : Type 0} (f : A → ℕ) (xs : List A) → Rises f 0 (in_order_by f xs)
rises_in_order f [] = tt
rises_in_order f (x ∷ xs) = rises_put f x 0 (in_order_by f xs) (omega arith) (rises_in_order f xs)

apart : {A : Type 0} (f : A → ℕ) (j : ℕ) (x y : A) → f y < f x → between f j (j + 1) y && between f j (j + 1) x ≡ false
apart f j x y less = by_case (cases_lt (f x) (j + 1))
  where
    and_false : (b : Bool) → b && false ≡ false
    and_false true = refl
    and_false false = refl

    by_case : (f x < j + 1) ⊎ (j + 1 ≤ f x) → between f j (j + 1) y && between f j (j + 1) x ≡ false
    by_case (inl below) = ap (λ b. b && between f j (j + 1) x) (between_below f j (j + 1) y (omega (arith, below, less)))
    by_case (inr above) = ap (λ b. between f j (j + 1) y && b) (between_above f j (j + 1) x above) ∙ and_false (between f j (j + 1) y)

exchanged : {A : Type 0} (x y : A) (rest : List A) (b c : Bool) → b && c ≡ false
    → cond b (y ∷ cond c (x ∷ rest) rest) (cond c (x ∷ rest) rest) ≡ cond c (x ∷ cond b (y ∷ rest) rest) (cond b (y ∷ rest) rest)
exchanged x y rest true true both = absurd (cc both)
exchanged x y rest true false both = refl
exchanged x y rest false c both = refl

piece_put : {A : Type 0} (f : A → ℕ) (j : ℕ) (x : A) (ys : List A) → filter (between f j (j + 1)) (put_by f x ys)
    ≡ filter (between f j (j + 1)) (x ∷ ys)
piece_put f j x [] = refl
piece_put f j x (y ∷ ys) = by_case (piece_put f j x ys) (cases_lt (f y) (f x))
  where
    by_case : filter (between f j (j + 1)) (put_by f x ys) ≡ filter (between f j (j + 1)) (x ∷ ys) → (f y < f x) ⊎ (f x ≤ f y)
        → filter (between f j (j + 1)) (put_by f x (y ∷ ys)) ≡ filter (between f j (j + 1)) (x ∷ y ∷ ys)
    by_case rest (inl less) =
        ap (λ b. filter (between f j (j + 1)) (if b then x ∷ y ∷ ys else y ∷ put_by f x ys)) (lt-leb (f x) (f y) less)
        ∙ ap (λ zs. cond (between f j (j + 1) y) (y ∷ zs) zs) rest
        ∙ exchanged x y (filter (between f j (j + 1)) ys) (between f j (j + 1) y) (between f j (j + 1) x) (apart f j x y less)
    by_case rest (inr first) = ap (λ b. filter (between f j (j + 1)) (if b then x ∷ y ∷ ys else y ∷ put_by f x ys)) (le-leb (f x) (f y) first)

pub piece_in_order : {A : Type 0} (f : A → ℕ) (j : ℕ) (xs : List A) → filter (between f j (j + 1)) (in_order_by f xs)
    ≡ filter (between f j (j + 1)) xs
piece_in_order f j [] = refl
piece_in_order f j (x ∷ xs) =
    piece_put f j x (in_order_by f xs) ∙ ap (λ zs. cond (between f j (j + 1) x) (x ∷ zs) zs) (piece_in_order f j xs)

-- A list that rises, with the same elements of each number in the same order, is the list in order.
pub in_order_is : {A : Type 0} (f : A → ℕ) (xs ys : List A) → Rises f 0 ys
    → ((j : ℕ) → filter (between f j (j + 1)) ys ≡ filter (between f j (j + 1)) xs)
    → ys ≡ in_order_by f xs
in_order_is f xs ys up same = told_by_pieces f ys (in_order_by f xs) up (rises_in_order f xs) (λ j. same j ∙ sym (piece_in_order f j xs))

-- a stable sort by a number
rises_of : {A : Type 0} (f : A → ℕ) (low : ℕ) (xs : List A) → ((j : ℕ) (d : A) → j < length xs → low ≤ f (get_or xs j d))
    → IsNonDecreasingBy f xs → Rises f low xs
rises_of f low [] least up = tt
rises_of f low (x ∷ xs) least up = (
  least 0 x (omega arith),
  rises_of f (f x) xs (λ j d below. up 0 (suc j) d (omega arith) (omega (arith, below)))
      (λ i j d order below. up (suc i) (suc j) d (omega (arith, order)) (omega (arith, below))),
)

is_less : (a b : ℕ) → is_lt (nat_cmp a b) ≡ nat_lt a b
is_less a b = by (nat_lt a b) (a == b)
  where
    by : (b c : Bool) → is_lt (cond b Less (cond c Equal Greater)) ≡ b
    by true c = refl
    by false true = refl
    by false false = refl

tie_is : {A : Type 0} (f : A → ℕ) (j : ℕ) (x y : A) → f x ≡ j → ties (λ a b. is_lt (nat_cmp (f a) (f b))) x y ≡ between f j (j + 1) y
tie_is f j x y same =
    (λ i. not (is_less (f x) (f y) i) && not (is_less (f y) (f x) i)) ∙ by_case (cases_lt (f y) j) (cases_lt j (f y))
  where
    by_case : (f y < j) ⊎ (j ≤ f y) → (j < f y) ⊎ (f y ≤ j) → (not (nat_lt (f x) (f y)) && not (nat_lt (f y) (f x))) ≡ between f j (j + 1) y
    by_case (inl below) other =
        ap (λ b. not b && not (nat_lt (f y) (f x))) (le-ltb (f x) (f y) (omega (arith, same, below)))
        ∙ ap (λ b. not b) (lt-ltb (f y) (f x) (omega (arith, same, below))) ∙ sym (between_below f j (j + 1) y below)
    by_case (inr from) (inl above) =
        ap (λ b. not b && not (nat_lt (f y) (f x))) (lt-ltb (f x) (f y) (omega (arith, same, above)))
        ∙ sym (between_above f j (j + 1) y (omega (arith, above)))
    by_case (inr from) (inr to) =
        ap (λ b. not b && not (nat_lt (f y) (f x))) (le-ltb (f x) (f y) (omega (arith, same, to)))
        ∙ ap (λ b. not b) (le-ltb (f y) (f x) (omega (arith, same, from)))
        ∙ sym (ap (λ b. b && nat_lt (f y) (j + 1)) (le-leb j (f y) from) ∙ lt-ltb (f y) (j + 1) (omega (arith, to)))

first_passes : {A : Type 0} (p : A → Bool) (xs : List A) (z : A) (zs : List A) → filter p xs ≡ z ∷ zs → p z ≡ true
first_passes p [] z zs same = absurd (cc same)
first_passes p (x ∷ xs) z zs same = by_test (p x) refl same (first_passes p xs z zs)
  where
    by_test : (b : Bool) → p x ≡ b → cond b (x ∷ filter p xs) (filter p xs) ≡ z ∷ zs → (filter p xs ≡ z ∷ zs → p z ≡ true) → p z ≡ true
    by_test true passes found rest = let e : x ≡ z = cc found in ap p (sym e) ∙ passes
    by_test false passes found rest = rest found

pub number_is : {A : Type 0} (f : A → ℕ) (j : ℕ) (z : A) → between f j (j + 1) z ≡ true → f z ≡ j
number_is f j z passes =
    let parts : (nat_le j (f z) ≡ true) × (nat_lt (f z) (j + 1) ≡ true) = and_parts _ _ passes in
    let low : j ≤ f z = leb-true _ _ parts.0 in
    let high : f z < j + 1 = ltb-true _ _ parts.1 in
    omega (arith, low, high)

stable_piece : {A : Type 0} (f : A → ℕ) (xs ys : List A) → IsStableByKey f nat_cmp xs ys → (j : ℕ)
    → filter (between f j (j + 1)) ys ≡ filter (between f j (j + 1)) xs
stable_piece {A} f xs ys stable j = by_lists (filter (between f j (j + 1)) ys) (filter (between f j (j + 1)) xs) refl refl
  where
    by_first : (z : A) → between f j (j + 1) z ≡ true → filter (between f j (j + 1)) ys ≡ filter (between f j (j + 1)) xs
    by_first z passes =
        let same : ties (λ a b. is_lt (nat_cmp (f a) (f b))) z ≡ between f j (j + 1) = λ i y. tie_is f j z y (number_is f j z passes) i in
        subst (λ p. filter p ys ≡ filter p xs) same (stable z)

    by_lists : (zs ws : List A) → filter (between f j (j + 1)) ys ≡ zs → filter (between f j (j + 1)) xs ≡ ws
        → filter (between f j (j + 1)) ys ≡ filter (between f j (j + 1)) xs
    by_lists [] [] a b = a ∙ sym b
    by_lists [] (w ∷ ws) a b = by_first w (first_passes (between f j (j + 1)) xs w ws b)
    by_lists (z ∷ zs) ws a b = by_first z (first_passes (between f j (j + 1)) ys z zs a)

pub sorted_is : {A : Type 0} (f : A → ℕ) (xs ys : List A) → IsNonDecreasingBy f ys → IsStableByKey f nat_cmp xs ys → ys ≡ in_order_by f xs
sorted_is f xs ys up stable = in_order_is f xs ys (rises_of f 0 ys (λ j d below. omega arith) up) (stable_piece f xs ys stable)

-- what is told of each
map_put : {A B : Type 0} (f : B → ℕ) (tell : A → B) (x : A) (ys : List A) → map tell (put_by (λ a. f (tell a)) x ys) ≡ put_by f (tell x) (map tell ys)
map_put f tell x [] = refl
map_put f tell x (y ∷ ys) = by (nat_le (f (tell x)) (f (tell y))) (map_put f tell x ys)
  where
    by : (b : Bool) → map tell (put_by (λ a. f (tell a)) x ys) ≡ put_by f (tell x) (map tell ys)
        → map tell (if b then x ∷ y ∷ ys else y ∷ put_by (λ a. f (tell a)) x ys)
        ≡ (if b then tell x ∷ tell y ∷ map tell ys else tell y ∷ put_by f (tell x) (map tell ys))
    by true rest = refl
    by false rest = ap (λ zs. tell y ∷ zs) rest

pub map_in_order : {A B : Type 0} (f : B → ℕ) (tell : A → B) (xs : List A) → map tell (in_order_by (λ a. f (tell a)) xs) ≡ in_order_by f (map tell xs)
map_in_order f tell [] = refl
map_in_order f tell (x ∷ xs) = map_put f tell x (in_order_by (λ a. f (tell a)) xs) ∙ ap (put_by f (tell x)) (map_in_order f tell xs)
