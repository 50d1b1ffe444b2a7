-- How names, keywords and operators are spelled.
use Rattle.std.specs.Prelude.{ℕ, Bool, false, ◌&&◌, ◌||◌, List, [], ◌∷◌, nat_le, ◌==◌, codes}
use Rattle.std.specs.List.{list_all}
use Rattle.tac_program.specs.declared.program.Op.{Op}
use Rattle.tac_program.specs.declared.program.Op.TheVariants as op

abbrev pub is_digit : ℕ → Bool
is_digit b = nat_le 48 b && nat_le b 57

abbrev pub is_letter : ℕ → Bool
is_letter b = (nat_le 65 b && nat_le b 90) || ((nat_le 97 b && nat_le b 122) || b == 95)

abbrev pub is_name_byte : ℕ → Bool
is_name_byte b = is_letter b || is_digit b

abbrev pub is_name : List ℕ → Bool
is_name [] = false
is_name (b ∷ bs) = is_letter b && list_all is_name_byte bs

abbrev pub keywords : List (List ℕ)
keywords = codes "proc" ∷ codes "end" ∷ codes "goto" ∷ codes "if" ∷ codes "ifFalse" ∷ codes "call" ∷ codes "return" ∷ codes "read" ∷ codes "print"
    ∷ codes "skip" ∷ []

abbrev pub comparison_signs : List (List ℕ)
comparison_signs = codes "<" ∷ codes "<=" ∷ codes ">" ∷ codes ">=" ∷ codes "==" ∷ codes "!=" ∷ []

abbrev pub binary_signs : List (List ℕ)
binary_signs =
    codes "+" ∷ codes "-" ∷ codes "*" ∷ codes "/" ∷ codes "%" ∷ codes "&" ∷ codes "|" ∷ codes "^" ∷ codes "<<" ∷ codes ">>" ∷ comparison_signs

abbrev pub unary_signs : List (List ℕ)
unary_signs = codes "-" ∷ codes "~" ∷ codes "!" ∷ []

-- The sign of an operator, and the operator of a sign.
abbrev pub sign_of : Op → List ℕ
sign_of op.Plus = codes "+"
sign_of op.Minus = codes "-"
sign_of op.Star = codes "*"
sign_of op.Slash = codes "/"
sign_of op.Percent = codes "%"
sign_of op.And = codes "&"
sign_of op.Or = codes "|"
sign_of op.Caret = codes "^"
sign_of op.ShiftLeft = codes "<<"
sign_of op.ShiftRight = codes ">>"
sign_of op.Less = codes "<"
sign_of op.LessEqual = codes "<="
sign_of op.Greater = codes ">"
sign_of op.GreaterEqual = codes ">="
sign_of op.Equal = codes "=="
sign_of op.NotEqual = codes "!="
sign_of op.Tilde = codes "~"
sign_of op.Bang = codes "!"

abbrev pub operators : List Op
operators =
    op.Plus ∷ op.Minus ∷ op.Star ∷ op.Slash ∷ op.Percent ∷ op.And ∷ op.Or ∷ op.Caret ∷ op.ShiftLeft ∷ op.ShiftRight
    ∷ op.Less ∷ op.LessEqual ∷ op.Greater ∷ op.GreaterEqual ∷ op.Equal ∷ op.NotEqual ∷ op.Tilde ∷ op.Bang ∷ []
