-- Rising numbers are what a filter lets through that passes them alone
use Rattle.std.proofs.Common.{◌≡◌, ℕ, zero, suc, ◌+◌, ◌<◌, ◌≤◌, ◌⊎◌, inl, inr, Bool, true, false, ◌&&◌, ◌||◌, List, [], ◌∷◌, cond, nat_eq}
use Rattle.std.proofs.Common.{slice_index, refl, sym, ap, ◌∙◌, subst, arith, eq-or-lt_of_le}
use Rattle.std.specs.List.{filter, list_any, range_with_len}
use Rattle.std.specs.List.Sorted.{IsStrictlyIncreasing}
use Rattle.std.proofs.Math.Bool.{or-true}
use Rattle.std.proofs.lemmas.Bool.{eq-eqb, ne_eqb}

-- Each number is at least the one before it and one more, and the first at least this.
abbrev pub RisesFrom : ℕ → List ℕ → Type 0
RisesFrom a [] = Unit {0}
RisesFrom a (x ∷ xs) = (a ≤ x) × RisesFrom (suc x) xs

rises_from : (a x : ℕ) (xs : List ℕ) → a ≤ x → IsStrictlyIncreasing (x ∷ xs) → RisesFrom a (x ∷ xs)
rises_from a x [] above rising = (above, tt)
rises_from a x (y ∷ ys) above rising =
    let next : x < y = rising 0 (omega arith) in (
      above,
      rises_from (suc x) y ys (omega arith) (λ k within. let e : suc k + 1 ≡ suc (k + 1) = omega arith in
          subst (λ i. slice_index (y ∷ ys) k < slice_index (x ∷ y ∷ ys) i) e (rising (suc k) (omega arith))),
    )

pub rises : (xs : List ℕ) → IsStrictlyIncreasing xs → RisesFrom 0 xs
rises [] rising = tt
rises (x ∷ xs) rising = rises_from 0 x xs (omega arith) rising

-- no number below the first is among them
absent : (a b : ℕ) (xs : List ℕ) → a < b → RisesFrom b xs → list_any (nat_eq a) xs ≡ false
absent a b [] below rising = refl
absent a b (x ∷ xs) below rising =
    let other : nat_eq a x ≡ false = ne_eqb a x (λ same. omega (arith, rising.0)) in
    ap (λ t. t || list_any (nat_eq a) xs) other ∙ absent a (suc x) xs (omega (arith, rising.0)) rising.1

-- a filter that passes these numbers alone gives them, in their order
pub filter_rising : (n a : ℕ) (xs : List ℕ) (p : ℕ → Bool) → RisesFrom a xs → ((v : ℕ) → list_any (nat_eq v) xs ≡ true → v < a + n)
    → ((v : ℕ) → a ≤ v → list_any (nat_eq v) xs ≡ p v) → filter p (range_with_len a n) ≡ xs
filter_rising zero a [] p rising within same = refl
filter_rising zero a (x ∷ xs) p rising within same =
    let here : list_any (nat_eq x) (x ∷ xs) ≡ true = ap (λ t. t || list_any (nat_eq x) xs) (eq-eqb x x refl) in
    absurd (omega (arith, within x here, rising.0))
filter_rising (suc n) a [] p rising within same =
    ap (λ t. cond t (a ∷ filter p (range_with_len (a + 1) n)) (filter p (range_with_len (a + 1) n))) (sym (same a (omega arith)))
    ∙ filter_rising n (a + 1) [] p tt (λ v any. absurd (cc any)) (λ v above. same v (omega arith))
filter_rising (suc n) a (x ∷ xs) p rising within same =
    by_case (eq-or-lt_of_le rising.0) (filter_rising n (a + 1) xs p) (filter_rising n (a + 1) (x ∷ xs) p)
  where
    by_case : (a ≡ x) ⊎ (a < x)
        → (RisesFrom (a + 1) xs → ((v : ℕ) → list_any (nat_eq v) xs ≡ true → v < a + 1 + n) → ((v : ℕ) → a + 1 ≤ v → list_any (nat_eq v) xs ≡ p v)
        → filter p (range_with_len (a + 1) n) ≡ xs)
        → (RisesFrom (a + 1) (x ∷ xs) → ((v : ℕ) → list_any (nat_eq v) (x ∷ xs) ≡ true → v < a + 1 + n)
        → ((v : ℕ) → a + 1 ≤ v → list_any (nat_eq v) (x ∷ xs) ≡ p v) → filter p (range_with_len (a + 1) n) ≡ x ∷ xs)
        → filter p (range_with_len a (suc n)) ≡ x ∷ xs
    by_case (inl first) others all =
        let here : list_any (nat_eq a) (x ∷ xs) ≡ true = ap (λ t. t || list_any (nat_eq a) xs) (eq-eqb a x first) in
        let passes : p a ≡ true = sym (same a (omega arith)) ∙ here in
        let rest : filter p (range_with_len (a + 1) n) ≡ xs =
        others (subst (λ b. RisesFrom b xs) (omega (arith, first)) rising.1)
        (λ v any. omega (arith, within v (among v any)))
        (λ v above. sym (ap (λ t. t || list_any (nat_eq v) xs) (ne_eqb v x (λ is. omega (arith, is, first)))) ∙ same v (omega arith)) in
        ap (λ t. cond t (a ∷ filter p (range_with_len (a + 1) n)) (filter p (range_with_len (a + 1) n))) passes
        ∙ ap (λ ys. a ∷ ys) rest
        ∙ ap (λ b. b ∷ xs) first
      where
        among : (v : ℕ) → list_any (nat_eq v) xs ≡ true → list_any (nat_eq v) (x ∷ xs) ≡ true
        among v any = ap (λ t. nat_eq v x || t) any ∙ or-true (nat_eq v x)
    by_case (inr later) others all =
        let fails : p a ≡ false = sym (same a (omega arith)) ∙ absent a x (x ∷ xs) later (x_rises rising) in
        ap (λ t. cond t (a ∷ filter p (range_with_len (a + 1) n)) (filter p (range_with_len (a + 1) n))) fails
        ∙ all (omega arith, rising.1) (λ v any. omega (arith, within v any)) (λ v above. same v (omega arith))
      where
        x_rises : RisesFrom a (x ∷ xs) → RisesFrom x (x ∷ xs)
        x_rises given = (omega arith, given.1)

-- what passes two tests is what passes the first, and of it what passes the second
pub filter_both : {A : Type 0} (p q : A → Bool) (xs : List A) → filter (λ x. p x && q x) xs ≡ filter q (filter p xs)
filter_both p q [] = refl
filter_both p q (x ∷ xs) = by_test (p x) (filter_both p q xs)
  where
    by_test : (t : Bool) → filter (λ y. p y && q y) xs ≡ filter q (filter p xs)
        → cond (t && q x) (x ∷ filter (λ y. p y && q y) xs) (filter (λ y. p y && q y) xs) ≡ filter q (cond t (x ∷ filter p xs) (filter p xs))
    by_test true rest = ap (λ ys. cond (q x) (x ∷ ys) ys) rest
    by_test false rest = rest
