-- A family that is the least one closed under a step with finitely many candidates is decided
use Rattle.std.proofs.Common.{◌≡◌, ℕ, zero, suc, Bool, true, false, ◌||◌, nat_eq, List, [], ◌∷◌, length, Contains, ◌<◌, ◌≤◌, ◌⊎◌, inl, inr}
use Rattle.std.proofs.Common.{refl, sym, ap, ◌∙◌, arith}
use Rattle.std.specs.List.{list_any}
use Rattle.std.proofs.lemmas.List.Folds.{list_any_at}
use Rattle.std.proofs.lemmas.Bool.{eqb-true, or_left, or_right, or_cases}
use Rattle.flow_graph.proofs.graphs.ExampleLemmas.{is_one_of}

pub contains_any : {A : Type 0} (test : A → Bool) (xs : List A) (x : A) → Contains xs x → test x ≡ true → list_any test xs ≡ true
contains_any test xs x at passes = list_any_at test xs at.0 x at.1 (ap test at.2 ∙ passes)

pub any_contains : {A : Type 0} (test : A → Bool) (xs : List A) → list_any test xs ≡ true → (x : A) × Contains xs x × (test x ≡ true)
any_contains test [] any = absurd (cc any)
any_contains {A} test (x ∷ xs) any = go (test x) refl any (λ later. any_contains test xs later)
  where
    go : (here : Bool) → test x ≡ here → (here || list_any test xs) ≡ true → (list_any test xs ≡ true → (y : A) × Contains xs y × (test y ≡ true))
        → (y : A) × Contains (x ∷ xs) y × (test y ≡ true)
    go true is found rest = (x, (0, omega arith, refl), is)
    go false is found rest =
        let (y, at, passes) = rest found in
        (y, (suc at.0, omega (arith, at.1), at.2), passes)

abbrev pub any_below : ℕ → (ℕ → Bool) → Bool
any_below zero test = false
any_below (suc n) test = test n || any_below n test

pub some_below : (n : ℕ) (test : ℕ → Bool) → any_below n test ≡ true → (k : ℕ) × (k < n) × (test k ≡ true)
some_below zero test any = absurd (cc any)
some_below (suc n) test any = go (test n) refl any (λ later. some_below n test later)
  where
    go : (here : Bool) → test n ≡ here → (here || any_below n test) ≡ true → (any_below n test ≡ true → (k : ℕ) × (k < n) × (test k ≡ true))
        → (k : ℕ) × (k < suc n) × (test k ≡ true)
    go true is found rest = (n, omega arith, is)
    go false is found rest =
        let (k, less, passes) = rest found in
        (k, omega arith, passes)

pub below_some : (n : ℕ) (test : ℕ → Bool) (k : ℕ) → k < n → test k ≡ true → any_below n test ≡ true
below_some zero test k less passes = absurd (omega arith)
below_some (suc n) test k less passes = go (nat_eq k n) refl (λ below. below_some n test k below passes)
  where
    go : (same : Bool) → nat_eq k n ≡ same → (k < n → any_below n test ≡ true) → (test n || any_below n test) ≡ true
    go true same rest = or_left (test n) (any_below n test) (ap test (sym (eqb-true k n same)) ∙ passes)
    go false same rest = or_right (test n) (any_below n test) (rest (grind arith))

-- a test that passes for exactly those numbers that the family has
pub record Test (Family : ℕ → Type 0) : Type 0 where
  pub test : ℕ → Bool
  pub sound : (x : ℕ) → test x ≡ true → Family x
  pub complete : (x : ℕ) → Family x → test x ≡ true

pub decided : {Family : ℕ → Type 0} → Test Family → (x : ℕ) → Family x ⊎ (¬ (Family x))
decided {Family} t x = go (t.test x) refl
  where
    go : (passes : Bool) → t.test x ≡ passes → Family x ⊎ (¬ (Family x))
    go true passes = inl (t.sound x passes)
    go false passes = inr (λ member. let has : t.test x ≡ true = t.complete x member in cc (has, passes))

module _ (Family : ℕ → Type 0) (step : (ℕ → Bool) → ℕ → Bool) (candidates : List ℕ)
    (sound : (found : ℕ → Bool) → ((y : ℕ) → found y ≡ true → Family y) → (x : ℕ) → step found x ≡ true → Family x)
    (least : (found : ℕ → Bool) → ((x : ℕ) → step found x ≡ true → found x ≡ true) → (x : ℕ) → Family x → found x ≡ true)
    (within : (found : ℕ → Bool) (x : ℕ) → step found x ≡ true → is_one_of candidates x ≡ true) where
  -- one of these numbers that the step finds, and the others, or none
  Pick : (ℕ → Bool) → List ℕ → Type 0
  Pick found rest =
      ((x : ℕ) × (others : List ℕ) × (step found x ≡ true) × (length others < length rest)
      × ((y : ℕ) → is_one_of rest y ≡ true → (y ≡ x) ⊎ (is_one_of others y ≡ true)))
      ⊎ ((y : ℕ) → is_one_of rest y ≡ true → step found y ≡ false)

  pick : (found : ℕ → Bool) (rest : List ℕ) → Pick found rest
  unfolding Pick
  pick found [] = inr (λ y inside. absurd (cc inside))
  pick found (x ∷ rest) = go (step found x) refl (pick found rest)
    where
      first : (y : ℕ) (same : Bool) → nat_eq y x ≡ same → (same || is_one_of rest y) ≡ true → (y ≡ x) ⊎ (is_one_of rest y ≡ true)
      first y true same inside = inl (eqb-true y x same)
      first y false same inside = inr inside

      later : (x' : ℕ) (others : List ℕ) → ((y : ℕ) → is_one_of rest y ≡ true → (y ≡ x') ⊎ (is_one_of others y ≡ true)) → (y : ℕ) (same : Bool)
          → nat_eq y x ≡ same
          → (same || is_one_of rest y) ≡ true → (y ≡ x') ⊎ ((same || is_one_of others y) ≡ true)
      later x' others cover y true same inside = inr refl
      later x' others cover y false same inside = cover y inside

      none_yet : step found x ≡ false → ((y : ℕ) → is_one_of rest y ≡ true → step found y ≡ false) → (y : ℕ) (same : Bool) → nat_eq y x ≡ same
          → (same || is_one_of rest y) ≡ true → step found y ≡ false
      none_yet here none y true same inside = rw (eqb-true y x same) here
      none_yet here none y false same inside = none y inside

      go : (here : Bool) → step found x ≡ here → Pick found rest → Pick found (x ∷ rest)
      go true here others = inl (x, rest, here, omega arith, λ y inside. first y (nat_eq y x) refl inside)
      go false here (inl p) = inl (p.0, x ∷ p.1, p.2, omega (arith, p.3), λ y inside. later p.0 p.1 p.4 y (nat_eq y x) refl inside)
      go false here (inr none) = inr (λ y inside. none_yet here none y (nat_eq y x) refl inside)

  Covers : (ℕ → Bool) → List ℕ → Type 0
  Covers found rest = (y : ℕ) → is_one_of candidates y ≡ true → (found y ≡ true) ⊎ (is_one_of rest y ≡ true)

  one_more : (found : ℕ → Bool) (rest : List ℕ) → ((y : ℕ) → found y ≡ true → Family y) → Covers found rest → Pick found rest
      → ((more : ℕ → Bool) (others : List ℕ) → length others < length rest → ((y : ℕ) → more y ≡ true → Family y) → Covers more others → Test Family)
      → Test Family
  unfolding Pick Covers
  one_more found rest known cover (inr none) again = record { test = found; sound = known; complete = least found closed }
    where
      closed : (x : ℕ) → step found x ≡ true → found x ≡ true
      closed x here = go (cover x (within found x here))
        where
          go : (found x ≡ true) ⊎ (is_one_of rest x ≡ true) → found x ≡ true
          go (inl has) = has
          go (inr inside) = let not_here : step found x ≡ false = none x inside in absurd (cc (here, not_here))
  one_more found rest known cover (inl (x, others, here, fewer, among)) again = again (λ y. nat_eq y x || found y) others fewer grown still
    where
      grown : (y : ℕ) → (nat_eq y x || found y) ≡ true → Family y
      grown y either = go (or_cases (nat_eq y x) (found y) either)
        where
          go : (nat_eq y x ≡ true) ⊎ (found y ≡ true) → Family y
          go (inl same) = rw (eqb-true y x same) (sound found known x here)
          go (inr has) = known y has

      still : (y : ℕ) → is_one_of candidates y ≡ true → ((nat_eq y x || found y) ≡ true) ⊎ (is_one_of others y ≡ true)
      still y inside = go (cover y inside)
        where
          go' : (y ≡ x) ⊎ (is_one_of others y ≡ true) → ((nat_eq y x || found y) ≡ true) ⊎ (is_one_of others y ≡ true)
          go' (inl same) = inl (or_left (nat_eq y x) (found y) (grind arith))
          go' (inr later) = inr later

          go : (found y ≡ true) ⊎ (is_one_of rest y ≡ true) → ((nat_eq y x || found y) ≡ true) ⊎ (is_one_of others y ≡ true)
          go (inl has) = inl (or_right (nat_eq y x) (found y) has)
          go (inr left) = go' (among y left)

  search_all : (n : ℕ) (found : ℕ → Bool) (rest : List ℕ) → length rest ≤ n → ((y : ℕ) → found y ≡ true → Family y) → Covers found rest → Test Family
  search_all zero found rest few known cover =
      one_more found rest known cover (pick found rest) (λ more others fewer knows covers. absurd (omega arith))
  search_all (suc n) found rest few known cover =
      one_more found rest known cover (pick found rest) (λ more others fewer knows covers. search_all n more others (omega arith) knows covers)

  pub least_test : Test Family
  unfolding Covers
  least_test = search_all (length candidates) (λ y. false) candidates (omega arith) (λ y has. absurd (cc has)) (λ y inside. inr inside)
