-- Numbers that digits write.
use Rattle.std.proofs.Common.{◌≡◌, refl, lit≤, nat_le, nat_lt, if◌then◌else◌, Some, None, ◌==◌, ℕ, suc, ◌+◌, ◌-◌, ◌*◌, ◌<◌, ◌≤◌, Bool, true, false}
use Rattle.std.proofs.Common.{List, ◌∷◌, [], length, get_or, take, drop, arith, sym, ◌∙◌, ap, subst, ◌&&◌}
use Rattle.std.specs.Char.{digit_value, is_ascii_digit}
use Rattle.std.specs.Int.{is_in_range, IsInRange}
use Rattle.std.specs.List.{list_all}
use Rattle.std.specs.Str.Parse.{digits_value}
use Rattle.std.proofs.lemmas.List.Folds.{list_all_more}
use Rattle.std.proofs.lemmas.Int.Digits.{digits_value_more}
use Rattle.std.proofs.lemmas.Str.Parse.{digits_value-take-le}
use Rattle.part_texts.specs.Lines.{read_number}
use Rattle.std.proofs.lemmas.Str.{digit_value_digit}
use Rattle.std.proofs.lemmas.Grind.{common_steps}
use Rattle.tac_program.specs.Spelling.{is_digit}

digit_is : (b : ℕ) → is_ascii_digit b ≡ true → IsInRange 48 57 b
digit_is b digit = search (arith)

pub all_more : (digits : List ℕ) (i : ℕ) → i < length digits → list_all is_digit (take i digits) ≡ true → is_ascii_digit (get_or digits i 0) ≡ true
    → list_all is_digit (take (i + 1) digits) ≡ true
all_more digits i within all digit = list_all_more is_digit digits i 0 within ∙ (rw all digit)

pub value_more : (digits : List ℕ) (i value : ℕ) → i < length digits → value ≡ digits_value 10 (take i digits)
    → is_ascii_digit (get_or digits i 0) ≡ true
    → 10 * value + (get_or digits i 0 - 48) ≡ digits_value 10 (take (i + 1) digits)
value_more digits i value within is digit =
    let more : digits_value 10 (take (i + 1) digits)
    ≡ digits_value 10 (take i digits) * 10 + digit_value (get_or digits i 0) = digits_value_more 10 digits i within in
    let one : digit_value (get_or digits i 0) + 48 ≡ get_or digits i 0 = digit_value_digit _ (digit_is _ digit) in
    omega (arith, more, one, is)

pub too_large : (most : ℕ) (digits : List ℕ) (i : ℕ) → most < digits_value 10 (take i digits) → read_number most digits ≡ None
too_large most digits i large =
    let le : digits_value 10 (take i digits) ≤ digits_value 10 digits = digits_value-take-le 10 digits i (lit≤ tt) in
    let larger : nat_le (digits_value 10 digits) most ≡ false = search (arith) in
    by_both (nat_lt 0 (length digits) && list_all is_digit digits) larger
  where
    by_both : (b : Bool) → nat_le (digits_value 10 digits) most ≡ false
        → (if b && nat_le (digits_value 10 digits) most then Some (digits_value 10 digits) else None) ≡ None
    by_both true larger = ap (λ b. if b then Some (digits_value 10 digits) else None) larger
    by_both false larger = refl
