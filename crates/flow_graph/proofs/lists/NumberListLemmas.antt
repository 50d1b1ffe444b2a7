-- Tables of lists of numbers, one number longer
use Rattle.std.proofs.Common.{◌≡◌, ◌≢◌, ℕ, suc, ◌+◌, ◌<◌, Bool, true, false, ◌||◌, List, [], ◌∷◌, ◌++◌, length, get_or, set, fold, All, AllPairs}
use Rattle.std.proofs.Common.{nat_eq, if◌then◌else◌, refl, sym, ap, ◌∙◌, subst, append-nil, arith, get_or-set_same, get_or-set_other, length-set}
use Rattle.std.specs.List.{list_any, filter, range_with_len}
use Rattle.std.proofs.lemmas.List.{map-set, get_or-map}
use Rattle.std.proofs.lemmas.List.Elements.{filter-append}
use Rattle.smallvec.specs.SmallVec.{SmallVec}
use Rattle.flow_graph.specs.code.NumberLists.{contents, with_last, AreLists}
use Rattle.flow_graph.proofs.lists.Ranges.{range_more}

-- one list is longer, and the others stay
pub put_lists : (lists : List (List ℕ)) (many : ℕ) (list_of : ℕ → List ℕ) (index x : ℕ) → AreLists lists many list_of → index < many
    → AreLists (with_last lists index x) many (λ k. list_of k ++ (if nat_eq k index then x ∷ [] else []))
put_lists lists many list_of index x are below = record {
  count = length-set lists index _ ∙ are.count;
  each = λ k d inside. by_test k d inside (nat_eq k index) refl;
}
  where
    within : index < length lists
    within = omega (arith, are.count)

    by_test : (k : ℕ) (d : List ℕ) → k < many → (b : Bool) → nat_eq k index ≡ b
        → get_or (with_last lists index x) k d ≡ list_of k ++ (if b then x ∷ [] else [])
    by_test k d inside true test =
        let same : k ≡ index = grind arith in
        subst (λ j. get_or (with_last lists index x) j d ≡ list_of j ++ x ∷ []) (sym same)
        (get_or-set_same lists index (get_or lists index [] ++ x ∷ []) d within ∙ ap (λ xs. xs ++ x ∷ []) (are.each index [] below))
    by_test k d inside false test =
        let other : k ≢ index = grind arith in
        get_or-set_other lists index k (get_or lists index [] ++ x ∷ []) d other ∙ are.each k d inside ∙ sym (append-nil (list_of k))

-- a list of the table that is written is the list that was read, one number longer
pub contents-put : (lists : List (SmallVec ℕ)) (index x : ℕ) (old new : SmallVec ℕ) → index < length lists → old ≡ get_or lists index old
    → new.items ≡ old.items ++ x ∷ []
    → contents (set lists index new) ≡ with_last (contents lists) index x
contents-put lists index x old new below read is =
    map-set (λ (list : SmallVec ℕ). list.items) lists index new
    ∙ ap (λ xs. set (contents lists) index xs) (is ∙ ap (λ xs. xs ++ x ∷ []) (ap (λ (list : SmallVec ℕ). list.items) read
    ∙ sym (get_or-map (λ (list : SmallVec ℕ). list.items) lists index old [] below)))

-- there are as many lists
pub length-put : (lists : List (List ℕ)) (x : ℕ) (indices : List ℕ) → length (fold (λ known k. with_last known k x) lists indices) ≡ length lists
length-put lists x [] = refl
length-put lists x (index ∷ indices) = length-put (with_last lists index x) x indices ∙ length-set lists index _

-- where no element is the first, a test for the first fails for the rest
absent : (x : ℕ) (xs : List ℕ) → All (λ y. x ≢ y) xs → list_any (nat_eq x) xs ≡ false
absent x [] differ = refl
absent x (y ∷ ys) differ =
    let here : x ≢ y = differ 0 0 (omega arith) in
    let test : nat_eq x y ≡ false = grind arith in
    ap (λ b. b || list_any (nat_eq x) ys) test ∙ absent x ys (λ k d below. differ (suc k) d (omega arith))

-- a number put last in each of several lists that differ
pub put_in_each : (lists : List (List ℕ)) (many : ℕ) (list_of : ℕ → List ℕ) (x : ℕ) (indices : List ℕ) → AreLists lists many list_of
    → All (λ k. k < many) indices → AllPairs (λ a b. a ≢ b) indices
    → AreLists (fold (λ known k. with_last known k x) lists indices) many (λ k. list_of k ++ (if list_any (nat_eq k) indices then x ∷ [] else []))
put_in_each lists many list_of x [] are there differ =
    record { count = are.count; each = λ k d inside. are.each k d inside ∙ sym (append-nil (list_of k)) }
put_in_each lists many list_of x (index ∷ indices) are there differ =
    let first : AreLists (with_last lists index x) many (λ k. list_of k ++ (if nat_eq k index then x ∷ [] else [])) =
    put_lists lists many list_of index x are (there 0 0 (omega arith)) in
    let rest = put_in_each (with_last lists index x) many (λ k. list_of k ++ (if nat_eq k index then x ∷ [] else [])) x indices first
    (λ k d below. there (suc k) d (omega arith)) (λ i j d before below. differ (suc i) (suc j) d (omega arith) (omega arith)) in
    record { count = rest.count; each = λ k d inside. rest.each k d inside ∙ by_test k (nat_eq k index) refl }
  where
    by_test : (k : ℕ) (b : Bool) → nat_eq k index ≡ b
        → (list_of k ++ (if b then x ∷ [] else [])) ++ (if list_any (nat_eq k) indices then x ∷ [] else []) ≡ list_of k
        ++ (if b || list_any (nat_eq k) indices then x ∷ [] else [])
    by_test k true test =
        let same : k ≡ index = grind arith in
        let others : All (λ y. index ≢ y) indices = λ j d below. differ 0 (suc j) d (omega arith) (omega arith) in
        let none : list_any (nat_eq k) indices ≡ false = ap (λ m. list_any (nat_eq m) indices) same ∙ absent index indices others in
        ap (λ c. (list_of k ++ x ∷ []) ++ (if c then x ∷ [] else [])) none ∙ append-nil (list_of k ++ x ∷ [])
    by_test k false test = ap (λ xs. xs ++ (if list_any (nat_eq k) indices then x ∷ [] else [])) (append-nil (list_of k))

-- one number more that a filter may let through
pub filter-range_more : (p : ℕ → Bool) (n : ℕ) → filter p (range_with_len 0 (n + 1)) ≡ filter p (range_with_len 0 n) ++ (if p n then n ∷ [] else [])
filter-range_more p n = ap (filter p) (range_more n) ∙ filter-append p (range_with_len 0 n) (n ∷ [])
