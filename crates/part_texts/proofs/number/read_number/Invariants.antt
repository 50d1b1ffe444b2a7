use Rattle.std.proofs.Common.{◌≡◌, ℕ, ◌≤◌, true, List, take}
use Rattle.std.specs.List.{list_all}
use Rattle.std.specs.Str.Parse.{digits_value}
use Rattle.tac_program.specs.Spelling.{is_digit}
use Rattle.part_texts.proofs.number.read_number.Given as goal

pub record Known (digits : List ℕ) (limit value i : ℕ) : Type 0 where
  pub all : list_all is_digit (take i digits) ≡ true
  pub is : value ≡ digits_value 10 (take i digits)
  pub most : value ≤ limit

abbrev pub invariant-loop-digit : goal.invariant-loop-digit
invariant-loop-digit l = Known l.digits l.most l.value l.digit-index
