-- How many errors are told
use Rattle.std.proofs.Common.{◌≡◌, ℕ, Bool, true, false, cond, List, ◌++◌, nat_eq, nat_lt, if◌then◌else◌, codes, decimal, sym, ap, ◌∙◌, refl}
use Rattle.std.proofs.lemmas.Bool.{eqb-true}
use Rattle.refusal_texts.specs.RefusalTexts.{error_count}

-- what a choice by tests gives
unequal_by : (a b : ℕ) (x y : List ℕ) (t : Bool) → nat_eq a b ≡ t → (a ≡ b → ⊥) → y ≡ cond t x y
unequal_by a b x y true is differ = absurd (differ (eqb-true a b is))
unequal_by a b x y false is differ = refl

abbrev fewer_words : ℕ → List ℕ
fewer_words count = if nat_eq count 1 then codes "1 error" else decimal count ++ codes " errors"

pub first_errors : (count : ℕ) → nat_lt 20 count ≡ true → codes "the first 20 errors" ≡ error_count count
first_errors count more = sym (ap (λ t. cond t (codes "the first 20 errors") (fewer_words count)) more)

pub all_errors : (count : ℕ) → nat_lt 20 count ≡ false → (count ≡ 1 → ⊥) → decimal count ++ codes " errors" ≡ error_count count
all_errors count fewer more =
    unequal_by count 1 (codes "1 error") (decimal count ++ codes " errors") (nat_eq count 1) refl more
    ∙ sym (ap (λ t. cond t (codes "the first 20 errors") (fewer_words count)) fewer)
