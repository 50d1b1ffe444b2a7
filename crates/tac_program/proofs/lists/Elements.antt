-- Facts of each element of a list, by recursion on it.
use Rattle.std.proofs.Common.{◌≡◌, ◌≢◌, ℕ, zero, suc, take, List, [], ◌∷◌, ◌++◌, map, flat_map, refl, arith}
use Rattle.std.proofs.lemmas.List.Elements.{All-from_recursion}
use Rattle.std.proofs.lemmas.List.Kept.{AllPairs-cons}
use Rattle.std.specs.List.{AllByRecursion as Each}
use Rattle.tac_program.specs.Sound.{AllDiffer}

module _ {A : Type 0} (P : A → Type 0) where
  pub each-append : (xs ys : List A) → Each P xs → Each P ys → Each P (xs ++ ys)
  each-append [] ys h k = k
  each-append (x ∷ xs) ys h k = (h.0, each-append xs ys h.1 k)

  pub each_left : (xs ys : List A) → Each P (xs ++ ys) → Each P xs
  each_left [] ys h = tt
  each_left (x ∷ xs) ys h = (h.0, each_left xs ys h.1)

  pub each_right : (xs ys : List A) → Each P (xs ++ ys) → Each P ys
  each_right [] ys h = h
  each_right (x ∷ xs) ys h = each_right xs ys h.1

  pub each-take : (n : ℕ) (xs : List A) → Each P xs → Each P (take n xs)
  each-take zero xs h = tt
  each-take (suc n) [] h = tt
  each-take (suc n) (x ∷ xs) h = (h.0, each-take n xs h.1)

  pub each-weaker : (Q : A → Type 0) → ((x : A) → P x → Q x) → (xs : List A) → Each P xs → Each Q xs
  each-weaker Q weaker [] h = tt
  each-weaker Q weaker (x ∷ xs) h = (weaker x h.0, each-weaker Q weaker xs h.1)

  pub each-both : (Q : A → Type 0) (xs : List A) → Each P xs → Each Q xs → Each (λ x. P x × Q x) xs
  each-both Q [] h k = tt
  each-both Q (x ∷ xs) h k = ((h.0, k.0), each-both Q xs h.1 k.1)

  module _ {B : Type 0} where
    pub each-map : (f : B → A) (bs : List B) → Each (λ b. P (f b)) bs → Each P (map f bs)
    each-map f [] h = tt
    each-map f (b ∷ bs) h = (h.0, each-map f bs h.1)

    pub each-from_map : (f : B → A) (bs : List B) → Each P (map f bs) → Each (λ b. P (f b)) bs
    each-from_map f [] h = tt
    each-from_map f (b ∷ bs) h = (h.0, each-from_map f bs h.1)

    pub each-flat_map : (f : B → List A) (bs : List B) → Each (λ b. Each P (f b)) bs → Each P (flat_map f bs)
    each-flat_map f [] h = tt
    each-flat_map f (b ∷ bs) h = each-append (f b) (flat_map f bs) h.0 (each-flat_map f bs h.1)

    pub each-from_flat_map : (f : B → List A) (bs : List B) → Each P (flat_map f bs) → Each (λ b. Each P (f b)) bs
    each-from_flat_map f [] h = tt
    each-from_flat_map f (b ∷ bs) h = (each_left (f b) (flat_map f bs) h, each-from_flat_map f bs (each_right (f b) (flat_map f bs) h))

-- Where lists one after another are none, each is none.
module _ {A : Type 0} where
  pub no_left : (xs ys : List A) → xs ++ ys ≡ [] → xs ≡ []
  no_left [] ys e = refl
  no_left (x ∷ xs) ys e = absurd (cc e)

  pub no_right : (xs ys : List A) → xs ++ ys ≡ [] → ys ≡ []
  no_right [] ys e = e
  no_right (x ∷ xs) ys e = absurd (cc e)

  pub no_parts : {B : Type 0} (f : B → List A) (bs : List B) → flat_map f bs ≡ [] → Each (λ b. f b ≡ []) bs
  no_parts f [] e = tt
  no_parts f (b ∷ bs) e = (no_left (f b) (flat_map f bs) e, no_parts f bs (no_right (f b) (flat_map f bs) e))

-- No element stands twice, by recursion.
abbrev pub Differ : {A : Type 0} → List A → Type 0
Differ [] = Unit {0}
Differ (x ∷ xs) = Each (λ y. x ≢ y) xs × Differ xs

pub all_differ : {A : Type 0} (xs : List A) → Differ xs → AllDiffer xs
all_differ [] h = λ i j d below within. absurd (let never : ⊥ = omega (arith, within) in never)
all_differ (x ∷ xs) h = AllPairs-cons (λ a b. a ≢ b) x xs (All-from_recursion (λ y. x ≢ y) xs h.0) (all_differ xs h.1)
