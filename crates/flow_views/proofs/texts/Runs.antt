-- The elements that pass a test, where they stand together
use Rattle.std.proofs.Common.{◌≡◌, ◌∙◌, ℕ, zero, suc, ◌+◌, ◌-◌, ◌<◌, ◌≤◌, Bool, true, false, List, [], ◌∷◌, length, map, take, drop, get_or, cond}
use Rattle.std.proofs.Common.{refl, sym, ap, arith, ◌⊎◌, inl, inr}
use Rattle.std.specs.List.{filter}
use Rattle.std.specs.List.Sorted.{IsNonDecreasingBy}
use Rattle.std.proofs.lemmas.List.{get_or-map, length-map}
use Rattle.std.proofs.lemmas.Bool.{cases_lt}
use Rattle.tac_program.specs.Programs.{LabelsRise}
use Rattle.tac_program.specs.declared.program.Label.{Label}

-- labels stand in the order of their places
pub places_rise : (labels : List Label) → LabelsRise labels → IsNonDecreasingBy (λ l. l.place) labels
places_rise labels rise i j d up below =
    let first = get_or-map (λ (l : Label). l.place) labels i d d.place (omega (arith, up, below)) in
    let second = get_or-map (λ (l : Label). l.place) labels j d d.place below in
    let mapped : length (map (λ (l : Label). l.place) labels) ≡ length labels = length-map labels (λ (l : Label). l.place) in
    omega (arith, rise i j d.place up (omega (arith, below, mapped)), first, second)

none_pass : {A : Type 0} (test : A → Bool) (xs : List A) → ((k : ℕ) (d : A) → k < length xs → test (get_or xs k d) ≡ false) → filter test xs ≡ []
none_pass test [] none = refl
none_pass test (x ∷ xs) none =
    ap (λ b. cond b (x ∷ filter test xs) (filter test xs)) (none 0 x (omega arith))
    ∙ none_pass test xs (λ k d below. none (suc k) d (omega (arith, below)))

-- those from one place on and before another
pub run_passes : {A : Type 0} (test : A → Bool) (xs : List A) (a b : ℕ) → a ≤ b → b ≤ length xs
    → ((k : ℕ) (d : A) → k < a → test (get_or xs k d) ≡ false)
    → ((k : ℕ) (d : A) → a ≤ k → k < b → test (get_or xs k d) ≡ true)
    → ((k : ℕ) (d : A) → b ≤ k → k < length xs → test (get_or xs k d) ≡ false)
    → take (b - a) (drop a xs) ≡ filter test xs
run_passes test [] zero zero order within before inside behind = refl
run_passes test [] zero (suc b) order within before inside behind = absurd (omega (arith, within))
run_passes test [] (suc a) b order within before inside behind = absurd (omega (arith, order, within))
run_passes test (x ∷ xs) zero zero order within before inside behind =
    sym (none_pass test (x ∷ xs) (λ k d below. behind k d (omega arith) below))
run_passes test (x ∷ xs) zero (suc b) order within before inside behind =
    let whole : suc b - 0 ≡ suc b = omega arith in
    let part : b - 0 ≡ b = omega arith in
    ap (λ n. take n (x ∷ xs)) whole
    ∙ ap (λ rest. x ∷ rest)
    (ap (λ n. take n xs) (sym part)
    ∙ run_passes test xs zero b (omega arith) (omega (arith, within)) (λ k d low. absurd (omega (arith, low)))
    (λ k d low high. inside (suc k) d (omega arith) (omega (arith, high)))
    (λ k d low high. behind (suc k) d (omega (arith, low)) (omega (arith, high))))
    ∙ sym (ap (λ t. cond t (x ∷ filter test xs) (filter test xs)) (inside 0 x (omega arith) (omega arith)))
run_passes test (x ∷ xs) (suc a) zero order within before inside behind = absurd (omega (arith, order))
run_passes test (x ∷ xs) (suc a) (suc b) order within before inside behind =
    let one_less : suc b - suc a ≡ b - a = omega arith in
    ap (λ n. take n (drop a xs)) one_less
    ∙ run_passes test xs a b (omega (arith, order)) (omega (arith, within)) (λ k d low. before (suc k) d (omega (arith, low)))
    (λ k d low high. inside (suc k) d (omega (arith, low)) (omega (arith, high)))
    (λ k d low high. behind (suc k) d (omega (arith, low)) (omega (arith, high)))
    ∙ sym (ap (λ t. cond t (x ∷ filter test xs) (filter test xs)) (before 0 x (omega arith)))

-- labels before a place are no more than those before the next one
pub ordered : (labels : List Label) (place first end : ℕ) → first ≤ length labels
    → ((k : ℕ) (d : Label) → k < first → (get_or labels k d).place < place)
    → ((k : ℕ) (d : Label) → end ≤ k → k < length labels → place + 1 ≤ (get_or labels k d).place)
    → first ≤ end
ordered labels place first end within before behind = by_cases (cases_lt end first)
  where
    none : Label
    none = record { name = 0; place = 0 }

    by_cases : (end < first) ⊎ (first ≤ end) → first ≤ end
    by_cases (inl below) = absurd (omega (arith, before end none below, behind end none (omega arith) (omega (arith, below, within))))
    by_cases (inr above) = above
