-- Texts of numbers from the first on, one number longer
use Rattle.std.proofs.Common.{◌≡◌, ℕ, ◌+◌, ◌-◌, ◌<◌, ◌≤◌, Bool, true, false, if◌then◌else◌, cond, List, [], ◌∷◌, ◌++◌, length, take, get_or, flat_map}
use Rattle.std.proofs.Common.{refl, sym, ap, ◌∙◌, append-nil, arith}
use Rattle.std.specs.List.{filter, range_with_len}
use Rattle.std.proofs.lemmas.Grind.{flat_map-append}
use Rattle.std.proofs.lemmas.List.{take_more}
use Rattle.flow_texts.proofs.sets.RangeLines.{range_split}

-- a number more
pub walk_more : (text_of : ℕ → List ℕ) (first n : ℕ) → first ≤ n
    → flat_map text_of (range_with_len first (n - first)) ++ text_of n ≡ flat_map text_of (range_with_len first (n + 1 - first))
walk_more text_of first n above =
    let here : first + (n - first) ≡ n = omega arith in
    let longer : n - first + 1 ≡ n + 1 - first = omega arith in
    ap (λ t. flat_map text_of (range_with_len first (n - first)) ++ t) (sym (append-nil (text_of n)))
    ∙ ap (λ m. flat_map text_of (range_with_len first (n - first)) ++ flat_map text_of (m ∷ [])) (sym here)
    ∙ sym (flat_map-append text_of (range_with_len first (n - first)) (range_with_len (first + (n - first)) 1))
    ∙ ap (flat_map text_of) (sym (range_split first (n - first) 1))
    ∙ ap (λ k. flat_map text_of (range_with_len first k)) longer

-- a list of numbers more
pub walk_list_more : (text_of : ℕ → List ℕ) (numbers_in : ℕ → List ℕ) (first n : ℕ) → first ≤ n
    → flat_map text_of (flat_map numbers_in (range_with_len first (n - first))) ++ flat_map text_of (numbers_in n)
    ≡ flat_map text_of (flat_map numbers_in (range_with_len first (n + 1 - first)))
walk_list_more text_of numbers_in first n above =
    sym (flat_map-append text_of (flat_map numbers_in (range_with_len first (n - first))) (numbers_in n))
    ∙ ap (flat_map text_of) (walk_more numbers_in first n above)

-- an element more
pub walk_next : {A : Type 0} (text_of : A → List ℕ) (xs : List A) (i : ℕ) (d : A) → i < length xs
    → flat_map text_of (take i xs) ++ text_of (get_or xs i d) ≡ flat_map text_of (take (i + 1) xs)
walk_next text_of xs i d below =
    ap (λ t. flat_map text_of (take i xs) ++ t) (sym (append-nil (text_of (get_or xs i d))))
    ∙ sym (flat_map-append text_of (take i xs) (get_or xs i d ∷ []))
    ∙ ap (flat_map text_of) (sym (take_more xs i d below))

-- the texts of the elements that pass a test
pub flat_map-passing : {A B : Type 0} (text_of : A → List B) (test : A → Bool) (xs : List A)
    → flat_map (λ x. flat_map text_of (if test x then x ∷ [] else [])) xs ≡ flat_map text_of (filter test xs)
flat_map-passing text_of test [] = refl
flat_map-passing text_of test (x ∷ xs) = by_test (test x) (flat_map-passing text_of test xs)
  where
    by_test : (b : Bool) → flat_map (λ x. flat_map text_of (if test x then x ∷ [] else [])) xs ≡ flat_map text_of (filter test xs)
        → flat_map text_of (if b then x ∷ [] else []) ++ flat_map (λ x. flat_map text_of (if test x then x ∷ [] else [])) xs
        ≡ flat_map text_of (cond b (x ∷ filter test xs) (filter test xs))
    by_test true rest = λ i. append-nil (text_of x) i ++ rest i
    by_test false rest = rest
