-- Elements that are kept, one by one
use Rattle.std.proofs.Common.{◌≡◌, ◌∙◌, ℕ, zero, suc, ◌+◌, ◌-◌, ◌<◌, ◌≤◌, Bool, true, false, ◌||◌, List, [], ◌∷◌, ◌++◌, filter, refl, sym, ap}
use Rattle.std.proofs.Common.{append_assoc, append-nil, arith, if◌then◌else◌}
use Rattle.std.proofs.Common.{All, Contains, get_or, subst}
use Rattle.std.specs.List.{list_any, range_with_len}
use Rattle.std.proofs.lemmas.List.Elements.{All-contains_itself}
use Rattle.flow_graph.proofs.lists.Membership.{Contains-in_filter, Contains-in_range}
use Rattle.flow_rounds.specs.code.Frames.{IsWithin}
use Rattle.flow_rounds.specs.declared.point_range.PointRange.{PointRange}
use Rattle.flow_steps.specs.code.Told.{points_of}

first_kept : {A : Type 0} (test : A → Bool) (x : A) (rest : List A)
    → (if test x then x ∷ [] else []) ++ filter test rest ≡ filter test (x ∷ rest)
first_kept {A} test x rest = by_test (test x)
  where
    by_test : (b : Bool) → (if b then x ∷ [] else []) ++ filter test rest ≡ (if b then x ∷ filter test rest else filter test rest)
    by_test true = refl
    by_test false = refl

-- one element more
pub more_kept : {A : Type 0} (test : A → Bool) (x : A) (rest old new all : List A) → new ≡ old ++ (if test x then x ∷ [] else [])
    → old ++ filter test (x ∷ rest) ≡ all → new ++ filter test rest ≡ all
more_kept test x rest old new all put before =
    ap (λ xs. xs ++ filter test rest) put ∙ append_assoc old (if test x then x ∷ [] else []) (filter test rest)
    ∙ ap (λ xs. old ++ xs) (first_kept test x rest) ∙ before

pub kept_if : {A : Type 0} (test : A → Bool) (x : A) (rest old new all : List A) (wanted : Bool) → wanted ≡ test x
    → new ≡ old ++ (if wanted then x ∷ [] else []) → old ++ filter test (x ∷ rest) ≡ all → new ++ filter test rest ≡ all
kept_if {A} test x rest old new all wanted is put before =
    more_kept test x rest old new all (put ∙ ap (λ (b : Bool). old ++ (if b then x ∷ [] else [])) is) before

-- the numbers from one on and before another
pub range_first : (k n : ℕ) → k < n → range_with_len k (n - k) ≡ k ∷ range_with_len (k + 1) (n - (k + 1))
range_first k n below = let more : n - k ≡ suc (n - (k + 1)) = omega (arith, below) in ap (range_with_len k) more

pub range_none : (k n : ℕ) → n ≤ k → range_with_len k (n - k) ≡ []
range_none k n most = let none : n - k ≡ zero = omega (arith, most) in ap (range_with_len k) none

pub next_number : (test : ℕ → Bool) (k n : ℕ) (old new all : List ℕ) → k < n → new ≡ old ++ (if test k then k ∷ [] else [])
    → old ++ filter test (range_with_len k (n - k)) ≡ all → new ++ filter test (range_with_len (k + 1) (n - (k + 1))) ≡ all
next_number test k n old new all below put before =
    more_kept test k (range_with_len (k + 1) (n - (k + 1))) old new all put (ap (λ xs. old ++ filter test xs) (sym (range_first k n below)) ∙ before)

pub all_numbers : (test : ℕ → Bool) (k n : ℕ) (kept all : List ℕ) → n ≤ k → kept ++ filter test (range_with_len k (n - k)) ≡ all → kept ≡ all
all_numbers test k n kept all most before =
    sym (append-nil kept) ∙ sym (ap (λ xs. kept ++ filter test xs) (range_none k n most)) ∙ before

pub none_yet : (test : ℕ → Bool) (n : ℕ) → [] ++ filter test (range_with_len 0 (n - 0)) ≡ filter test (range_with_len 0 n)
none_yet test n = let same : n - 0 ≡ n = omega arith in ap (λ m. filter test (range_with_len 0 m)) same

-- whether any number passes, one by one
pub next_any : (test : ℕ → Bool) (k n : ℕ) (all : Bool) → k < n → test k ≡ false → list_any test (range_with_len k (n - k)) ≡ all
    → list_any test (range_with_len (k + 1) (n - (k + 1))) ≡ all
next_any test k n all below fails before =
    sym (ap (λ b. b || list_any test (range_with_len (k + 1) (n - (k + 1)))) fails) ∙ sym (ap (list_any test) (range_first k n below)) ∙ before

pub found_any : (test : ℕ → Bool) (k n : ℕ) (all : Bool) → k < n → test k ≡ true → list_any test (range_with_len k (n - k)) ≡ all → true ≡ all
found_any test k n all below passes before =
    sym (ap (λ b. b || list_any test (range_with_len (k + 1) (n - (k + 1)))) passes) ∙ sym (ap (list_any test) (range_first k n below)) ∙ before

pub no_any : (test : ℕ → Bool) (k n : ℕ) (all : Bool) → n ≤ k → list_any test (range_with_len k (n - k)) ≡ all → false ≡ all
no_any test k n all most before = sym (ap (list_any test) (range_none k n most)) ∙ before

pub any_begins : (test : ℕ → Bool) (n : ℕ) → list_any test (range_with_len 0 (n - 0)) ≡ list_any test (range_with_len 0 n)
any_begins test n = let same : n - 0 ≡ n = omega arith in ap (λ m. list_any test (range_with_len 0 m)) same

-- what holds of all holds of those that are kept
pub kept_all : (P : ℕ → Type 0) (test : ℕ → Bool) (xs kept : List ℕ) → kept ≡ filter test xs → ((x : ℕ) → Contains xs x → P x) → All P kept
kept_all P test xs kept is holds =
    subst (λ (ys : List ℕ). All P ys) (sym is) (λ k d below. holds (get_or (filter test xs) k d)
    (Contains-in_filter test xs (get_or (filter test xs) k d) (All-contains_itself (filter test xs) k d below)).0)

pub of_all : (P : ℕ → Type 0) (xs : List ℕ) → All P xs → (x : ℕ) → Contains xs x → P x
of_all P xs all x (k, below, is) = subst P is (all k x below)

pub range_within : (points : PointRange) (point : ℕ) → Contains (points_of points) point → IsWithin points point
range_within points point at =
    let (low, high) = Contains-in_range points.first (points.end - points.first) point at in (low, omega (arith, low, high))
