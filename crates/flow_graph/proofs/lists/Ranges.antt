-- Ranges of numbers, one number longer
use Rattle.std.proofs.Common.{◌≡◌, ℕ, zero, suc, ◌⊎◌, ◌+◌, ◌<◌, ◌≤◌, List, [], ◌∷◌, ◌++◌, length, get_or, map, flat_map, inl, inr, subst, sym, ap}
use Rattle.std.proofs.Common.{◌∙◌, append-nil, arith}
use Rattle.std.specs.List.{range_with_len}
use Rattle.std.proofs.Math.ListN.{get_or-append}
use Rattle.std.proofs.Math.Seq.{get_or-append_seam}
use Rattle.std.proofs.lemmas.Bool.{cases_lt}
use Rattle.std.proofs.lemmas.Grind.{flat_map-append}
use Rattle.std.proofs.lemmas.List.{map-append}

range_suc : (a n : ℕ) → range_with_len a (suc n) ≡ range_with_len a n ++ (a + n) ∷ []
range_suc a zero =
    let e : a ≡ a + zero = omega arith in
    ap (λ x. x ∷ []) e
range_suc a (suc n) =
    let e : a + 1 + n ≡ a + suc n = omega arith in
    ap (λ xs. a ∷ xs) (range_suc (a + 1) n ∙ ap (λ x. range_with_len (a + 1) n ++ x ∷ []) e)

-- a range from 0 on
pub range_more : (n : ℕ) → range_with_len 0 (n + 1) ≡ range_with_len 0 n ++ n ∷ []
range_more n =
    let e : n + 1 ≡ suc n = omega arith in
    let f : 0 + n ≡ n = omega arith in
    ap (range_with_len 0) e ∙ range_suc 0 n ∙ ap (λ x. range_with_len 0 n ++ x ∷ []) f

pub map-range_more : {A : Type 0} (f : ℕ → A) (n : ℕ) → map f (range_with_len 0 (n + 1)) ≡ map f (range_with_len 0 n) ++ f n ∷ []
map-range_more f n = ap (map f) (range_more n) ∙ map-append f (range_with_len 0 n) (n ∷ [])

pub flat_map-range_more : {A : Type 0} (f : ℕ → List A) (n : ℕ) → flat_map f (range_with_len 0 (n + 1)) ≡ flat_map f (range_with_len 0 n) ++ f n
flat_map-range_more f n =
    ap (flat_map f) (range_more n)
    ∙ flat_map-append f (range_with_len 0 n) (n ∷ [])
    ∙ ap (λ xs. flat_map f (range_with_len 0 n) ++ xs) (append-nil (f n))

-- what holds of each element holds of one more
pub pushed_each : {A : Type 0} (P : ℕ → A → Type 0) (old : List A) (v : A) (n : ℕ) → length old ≡ n → ((k : ℕ) (d : A) → k < n → P k (get_or old k d))
    → P n v
    → (k : ℕ) (d : A) → k < n + 1 → P k (get_or (old ++ v ∷ []) k d)
pushed_each P old v n so_many each last k d below = by_case (cases_lt k n)
  where
    by_case : (k < n) ⊎ (n ≤ k) → P k (get_or (old ++ v ∷ []) k d)
    by_case (inl before) = subst (P k) (sym (get_or-append old (v ∷ []) d k (omega (arith, so_many)))) (each k d before)
    by_case (inr behind) =
        let same : n ≡ k = omega arith in
        let at : get_or (old ++ v ∷ []) k d ≡ v = ap (λ m. get_or (old ++ v ∷ []) m d) (sym same ∙ sym so_many) ∙ get_or-append_seam old v [] d in
        subst (λ m. P m (get_or (old ++ v ∷ []) k d)) same (subst (P n) (sym at) last)
