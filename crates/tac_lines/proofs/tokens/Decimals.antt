-- A number in decimal reads back.
use Rattle.std.proofs.Common.{◌≡◌, ℕ, zero, suc, ◌+◌, ◌-◌, ◌*◌, ◌<◌, ◌≤◌, ◌&&◌, true, List, [], ◌∷◌, map, min, decimal, refl, ap, ◌∙◌, arith}
use Rattle.std.specs.List.{AllByRecursion as Each, list_all}
use Rattle.std.specs.Int.Digits.{digits_of, number_from_digits_after}
use Rattle.std.proofs.lemmas.Bool.Decides.{nat_tests}
use Rattle.std.proofs.lemmas.Fmt.{decimal-digits_of, decimal_digit}
use Rattle.std.proofs.lemmas.Int.Digits.{number_digits_of, all_below_base_digits_of}
use Rattle.tac_lines.specs.Tokens.{is_number, value_from, value_of}
use Rattle.tac_program.specs.Spelling.{is_digit}
use Rattle.tac_program.specs.Limits.{largest_number}

is_digit_byte : (d : ℕ) → d < 10 → is_digit (48 + d) ≡ true
is_digit_byte d h = grind (arith, nat_tests)

all_digits : (ds : List ℕ) → Each (λ d. d < 10) ds → list_all is_digit (map (λ d. 48 + d) ds) ≡ true
all_digits [] h = refl
all_digits (d ∷ ds) h = λ i. is_digit_byte d h.0 i && all_digits ds h.1 i

value_digits : (high : ℕ) (ds : List ℕ) → value_from high (map (λ d. 48 + d) ds) ≡ number_from_digits_after 10 high ds
value_digits high [] = refl
value_digits high (d ∷ ds) =
    value_digits (10 * high + ((48 + d) - 48)) ds
    ∙ ap (λ k. number_from_digits_after 10 k ds) (let e : 10 * high + ((48 + d) - 48) ≡ high * 10 + d = omega arith in e)

digits_number : (ds : List ℕ) (n : ℕ) → 0 < n → number_from_digits_after 10 0 ds ≡ n → Each (λ d. d < 10) ds → is_number (map (λ d. 48 + d) ds) ≡ true
digits_number [] n some e h = absurd (let never : ⊥ = omega (arith, some, e) in never)
digits_number (d ∷ ds) n some e h = all_digits (d ∷ ds) h

pub is_number_decimal : (n : ℕ) → n ≤ largest_number → is_number (decimal n) ≡ true
is_number_decimal zero h = ap is_number (decimal_digit 0 (omega arith))
is_number_decimal (suc n) h =
    ap is_number (decimal-digits_of (suc n) (omega arith) (omega (arith, h)))
    ∙ digits_number (digits_of 10 (suc n)) (suc n) (omega arith) (number_digits_of 10 (suc n) (omega arith))
    (all_below_base_digits_of 10 (suc n) (omega arith))

value_from_decimal : (n : ℕ) → n ≤ largest_number → value_from 0 (decimal n) ≡ n
value_from_decimal zero h = ap (value_from 0) (decimal_digit 0 (omega arith))
value_from_decimal (suc n) h =
    ap (value_from 0) (decimal-digits_of (suc n) (omega arith) (omega (arith, h))) ∙ value_digits 0 (digits_of 10 (suc n))
    ∙ number_digits_of 10 (suc n) (omega arith)

pub value_of_decimal : (n : ℕ) → n ≤ largest_number → value_of (decimal n) ≡ n
value_of_decimal n h = ap (λ k. min k 9223372036854775808) (value_from_decimal n h) ∙ (let e : min n 9223372036854775808 ≡ n = omega (arith, h) in e)
