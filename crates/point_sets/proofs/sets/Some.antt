-- Whether any number of a range passes a test
use Rattle.std.proofs.Common.{◌≡◌, ℕ, zero, suc, ◌+◌, ◌<◌, Bool, true, false, ◌∷◌, filter, if◌then◌else◌, refl, ap, subst, ◌∙◌, arith}
use Rattle.std.specs.List.{range_with_len}
use Rattle.text_pieces.specs.code.Lists.{some_stand}

-- A number that passes a test is found among those of a range, and where none passes there is none.
pub some_found : (test : ℕ → Bool) (first n k : ℕ) → k < n → test (first + k) ≡ true → some_stand (filter test (range_with_len first n)) ≡ true
some_found test first zero k below is = absurd (omega (arith, below))
some_found test first (suc n) zero below is =
    let here : test first ≡ true = subst (λ (m : ℕ). test m ≡ true) (omega arith) is in
    ap (λ (b : Bool). some_stand (if b then first ∷ filter test (range_with_len (first + 1) n) else filter test (range_with_len (first + 1) n))) here
some_found test first (suc n) (suc k) below is = by_test (test first)
    (some_found test (first + 1) n k (omega (arith, below)) (subst (λ (m : ℕ). test m ≡ true) (omega arith) is))
  where
    by_test : (b : Bool) → some_stand (filter test (range_with_len (first + 1) n)) ≡ true
        → some_stand (if b then first ∷ filter test (range_with_len (first + 1) n) else filter test (range_with_len (first + 1) n)) ≡ true
    by_test true rest = refl
    by_test false rest = rest

pub none_found : (test : ℕ → Bool) (first n : ℕ) → ((k : ℕ) → k < n → test (first + k) ≡ false)
    → some_stand (filter test (range_with_len first n)) ≡ false
none_found test first zero none = refl
none_found test first (suc n) none =
    let here : test first ≡ false = subst (λ (m : ℕ). test m ≡ false) (omega arith) (none 0 (omega arith)) in
    ap (λ (b : Bool). some_stand (if b then first ∷ filter test (range_with_len (first + 1) n) else filter test (range_with_len (first + 1) n))) here
    ∙ none_found test (first + 1) n (λ k below. subst (λ (m : ℕ). test m ≡ false) (omega arith) (none (suc k) (omega (arith, below))))

-- the same of those below a count
pub some_below : (test : ℕ → Bool) (n k : ℕ) → k < n → test k ≡ true → some_stand (filter test (range_with_len 0 n)) ≡ true
some_below test n k below is = some_found test 0 n k below (subst (λ (m : ℕ). test m ≡ true) (omega arith) is)

pub none_below : (test : ℕ → Bool) (n : ℕ) → ((k : ℕ) → k < n → test k ≡ false) → some_stand (filter test (range_with_len 0 n)) ≡ false
none_below test n none = none_found test 0 n (λ k below. subst (λ (m : ℕ). test m ≡ false) (omega arith) (none k below))
