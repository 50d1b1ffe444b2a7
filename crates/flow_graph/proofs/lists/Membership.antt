-- Elements of lists that are joined, mapped, or are ranges
use Rattle.std.proofs.Common.{◌≡◌, ◌⊎◌, ℕ, zero, suc, ◌+◌, ◌<◌, ◌≤◌, List, [], ◌∷◌, map, flat_map, Contains, inl, inr, refl, sym, subst}
use Rattle.std.proofs.Common.{eq-or-lt_of_le, arith, filter, Bool, true, false, if◌then◌else◌, ap, ◌∙◌}
use Rattle.std.specs.List.{range_with_len}
use Rattle.std.proofs.lemmas.List.Elements.{Contains-append_left, Contains-append_right, Contains-append_cases}

pub Contains-first : {A : Type 0} (x : A) (xs : List A) → Contains (x ∷ xs) x
Contains-first x xs = (0, omega arith, refl)

pub Contains-later : {A : Type 0} (y : A) (xs : List A) (x : A) → Contains xs x → Contains (y ∷ xs) x
Contains-later y xs x at = Contains-append_right (y ∷ []) xs x at

pub Contains-nil : {A : Type 0} (x : A) → Contains [] x → ⊥
Contains-nil x at = absurd (omega (arith, at.1))

pub Contains-cons : {A : Type 0} (y : A) (xs : List A) (x : A) → Contains (y ∷ xs) x → (x ≡ y) ⊎ Contains xs x
Contains-cons y xs x (zero, below, is) = inl (sym is)
Contains-cons y xs x (suc i, below, is) = inr (i, omega arith, is)

pub Contains-one : {A : Type 0} (y x : A) → Contains (y ∷ []) x → x ≡ y
Contains-one y x at = elim (Contains-cons y [] x at) [ inl same ↦ same | inr none ↦ absurd (Contains-nil x none) ]

pub Contains-in_map : {A B : Type 0} (f : A → B) (xs : List A) (y : B) → Contains (map f xs) y → (x : A) × Contains xs x × (y ≡ f x)
Contains-in_map f [] y at = absurd (Contains-nil y at)
Contains-in_map f (x ∷ xs) y at =
    elim (Contains-cons (f x) (map f xs) y at) [
      | inl same ↦ (x, Contains-first x xs, same)
      | inr later ↦ (let (z, among, is) = Contains-in_map f xs y later in (z, Contains-later x xs z among, is))
    ]

pub Contains-in_flat_map : {A B : Type 0} (f : A → List B) (xs : List A) (y : B) → Contains (flat_map f xs) y
    → (x : A) × Contains xs x × Contains (f x) y
Contains-in_flat_map f [] y at = absurd (Contains-nil y at)
Contains-in_flat_map f (x ∷ xs) y at =
    elim (Contains-append_cases (f x) (flat_map f xs) y at) [
      | inl here ↦ (x, Contains-first x xs, here)
      | inr later ↦ (let (z, among, is) = Contains-in_flat_map f xs y later in (z, Contains-later x xs z among, is))
    ]

pub Contains-flat_map : {A B : Type 0} (f : A → List B) (xs : List A) (x : A) (y : B) → Contains xs x → Contains (f x) y → Contains (flat_map f xs) y
Contains-flat_map f [] x y among at = absurd (Contains-nil x among)
Contains-flat_map f (z ∷ xs) x y among at =
    elim (Contains-cons z xs x among) [
      | inl same ↦ Contains-append_left (f z) (flat_map f xs) y (subst (λ w. Contains (f w) y) same at)
      | inr later ↦ Contains-append_right (f z) (flat_map f xs) y (Contains-flat_map f xs x y later at)
    ]

pub Contains-in_range : (a n x : ℕ) → Contains (range_with_len a n) x → (a ≤ x) × (x < a + n)
Contains-in_range a zero x at = absurd (Contains-nil x at)
Contains-in_range a (suc n) x at =
    elim (Contains-cons a (range_with_len (a + 1) n) x at) [
      | inl same ↦ (omega arith, omega arith)
      | inr later ↦ (let (low, high) = Contains-in_range (a + 1) n x later in (omega arith, omega arith))
    ]

pub Contains-range : (a n x : ℕ) → a ≤ x → x < a + n → Contains (range_with_len a n) x
Contains-range a zero x low high = absurd (omega arith)
Contains-range a (suc n) x low high =
    elim (eq-or-lt_of_le low) [
      | inl same ↦ subst (λ w. Contains (range_with_len a (suc n)) w) same (Contains-first a (range_with_len (a + 1) n))
      | inr above ↦ Contains-later a (range_with_len (a + 1) n) x (Contains-range (a + 1) n x (omega arith) (omega arith))
    ]

-- what a filter leaves is of the list and passes the test, and all that passes is left
pub Contains-in_filter : {A : Type 0} (p : A → Bool) (xs : List A) (x : A) → Contains (filter p xs) x → Contains xs x × (p x ≡ true)
Contains-in_filter p [] x at = absurd (Contains-nil x at)
Contains-in_filter p (y ∷ ys) x at = by_test (p y) refl at (λ later. Contains-in_filter p ys x later)
  where
    by_test : (b : Bool) → p y ≡ b → Contains (if b then y ∷ filter p ys else filter p ys) x
        → (Contains (filter p ys) x → Contains ys x × (p x ≡ true)) → Contains (y ∷ ys) x × (p x ≡ true)
    by_test true test at rest =
        elim (Contains-cons y (filter p ys) x at) [
          | inl same ↦ (subst (Contains (y ∷ ys)) (sym same) (Contains-first y ys), ap p same ∙ test)
          | inr later ↦ (let both = rest later in (Contains-later y ys x both.0, both.1))
        ]
    by_test false test at rest = let both = rest at in (Contains-later y ys x both.0, both.1)

pub Contains-filter : {A : Type 0} (p : A → Bool) (xs : List A) (x : A) → Contains xs x → p x ≡ true → Contains (filter p xs) x
Contains-filter p [] x at passes = absurd (Contains-nil x at)
Contains-filter p (y ∷ ys) x at passes = by_test (p y) refl (Contains-cons y ys x at) (λ later. Contains-filter p ys x later passes)
  where
    by_test : (b : Bool) → p y ≡ b → (x ≡ y) ⊎ Contains ys x → (Contains ys x → Contains (filter p ys) x)
        → Contains (if b then y ∷ filter p ys else filter p ys) x
    by_test true test (inl same) rest = subst (Contains (y ∷ filter p ys)) (sym same) (Contains-first y (filter p ys))
    by_test true test (inr later) rest = Contains-later y (filter p ys) x (rest later)
    by_test false test (inl same) rest = absurd (cc (sym test ∙ ap p (sym same) ∙ passes))
    by_test false test (inr later) rest = rest later
