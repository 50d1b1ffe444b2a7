-- What the derived equality of expressions says
use Rattle.std.proofs.Common.{◌≡◌, Bool, true, false, ◌&&◌, nat_eq, refl, sym, ap, ap₂, ◌∙◌, subst, rules, arith}
use Rattle.std.specs.Prelude.{ℕ, List, find, unwrap_or, bytes_eq}
use denote.Enum.Bare.{sameb, same_true, same_false}
use Rattle.std.proofs.lemmas.Slice.Eq.{bytes_eq-Decides}
use Rattle.std.proofs.lemmas.Bool.{and_parts}
use Rattle.tac_program.specs.Spelling.{operators, sign_of}
use Rattle.tac_program.specs.contracts.program.Op.{the_type}
use Rattle.tac_program.specs.declared.program.Op.{Op}
use Rattle.tac_program.specs.declared.program.Op.TheVariants as op
use Rattle.tac_program.specs.declared.program.Operand.{Operand}
use Rattle.tac_program.specs.declared.program.Operand.TheVariants.{Variable, Number}
use Rattle.flow_graph.specs.Universes.{Expr, Unary, Binary, same_expression, same_operand, same_operator}
use Rattle.flow_graph.specs.contracts.expression.ExprPartialEq.TheImpl as derived

-- the operator of a sign
abbrev with_sign : List ℕ → Op
with_sign s = unwrap_or (find (λ o. bytes_eq s (sign_of o)) operators) op.Plus

-- the sign of an operator tells the operator
sign_tells : (o : Op) → with_sign (sign_of o) ≡ o
sign_tells op.Plus = refl
sign_tells op.Minus = refl
sign_tells op.Star = refl
sign_tells op.Slash = refl
sign_tells op.Percent = refl
sign_tells op.And = refl
sign_tells op.Or = refl
sign_tells op.Caret = refl
sign_tells op.ShiftLeft = refl
sign_tells op.ShiftRight = refl
sign_tells op.Less = refl
sign_tells op.LessEqual = refl
sign_tells op.Greater = refl
sign_tells op.GreaterEqual = refl
sign_tells op.Equal = refl
sign_tells op.NotEqual = refl
sign_tells op.Tilde = refl
sign_tells op.Bang = refl

equal_operators : (o p : Op) → sameb the_type o p ≡ same_operator o p
equal_operators o p = by_test (sameb the_type o p) refl
  where
    signs : (t : Bool) → same_operator o p ≡ t → sameb the_type o p ≡ false → false ≡ same_operator o p
    signs false is differ = sym is
    signs true is differ =
        let one_sign : sign_of o ≡ sign_of p = (bytes_eq-Decides (sign_of o) (sign_of p)).0 is in
        let one : o ≡ p = sym (sign_tells o) ∙ ap with_sign one_sign ∙ sign_tells p in
        absurd (same_false the_type o p differ one)

    by_test : (t : Bool) → sameb the_type o p ≡ t → sameb the_type o p ≡ same_operator o p
    by_test true is =
        let one : o ≡ p = same_true the_type (search rules) o p is in
        is ∙ subst (λ q. true ≡ same_operator o q) one (sym ((bytes_eq-Decides (sign_of o) (sign_of o)).1 refl))
    by_test false is = is ∙ signs (same_operator o p) refl is

one : (o p : Op) (a b : Operand) → (derived.eq-value).it (Unary o a) (Unary p b) ≡ same_expression (Unary o a) (Unary p b)
one o p (Variable x) (Variable y) = ap (λ t. t && nat_eq x y) (equal_operators o p)
one o p (Variable x) (Number n) = ap (λ t. t && false) (equal_operators o p)
one o p (Number m) (Variable y) = ap (λ t. t && false) (equal_operators o p)
one o p (Number m) (Number n) = ap (λ t. t && nat_eq m n) (equal_operators o p)

two : (o p : Op) (a b u v : Operand) → (derived.eq-value).it (Binary a o u) (Binary b p v) ≡ same_expression (Binary a o u) (Binary b p v)
two o p (Variable x) (Variable y) (Variable m) (Variable n) = ap (λ t. nat_eq x y && (t && nat_eq m n)) (equal_operators o p)
two o p (Variable x) (Variable y) (Variable m) (Number n) = ap (λ t. nat_eq x y && (t && false)) (equal_operators o p)
two o p (Variable x) (Variable y) (Number m) (Variable n) = ap (λ t. nat_eq x y && (t && false)) (equal_operators o p)
two o p (Variable x) (Variable y) (Number m) (Number n) = ap (λ t. nat_eq x y && (t && nat_eq m n)) (equal_operators o p)
two o p (Variable x) (Number y) (Variable m) (Variable n) = refl
two o p (Variable x) (Number y) (Variable m) (Number n) = refl
two o p (Variable x) (Number y) (Number m) (Variable n) = refl
two o p (Variable x) (Number y) (Number m) (Number n) = refl
two o p (Number x) (Variable y) (Variable m) (Variable n) = refl
two o p (Number x) (Variable y) (Variable m) (Number n) = refl
two o p (Number x) (Variable y) (Number m) (Variable n) = refl
two o p (Number x) (Variable y) (Number m) (Number n) = refl
two o p (Number x) (Number y) (Variable m) (Variable n) = ap (λ t. nat_eq x y && (t && nat_eq m n)) (equal_operators o p)
two o p (Number x) (Number y) (Variable m) (Number n) = ap (λ t. nat_eq x y && (t && false)) (equal_operators o p)
two o p (Number x) (Number y) (Number m) (Variable n) = ap (λ t. nat_eq x y && (t && false)) (equal_operators o p)
two o p (Number x) (Number y) (Number m) (Number n) = ap (λ t. nat_eq x y && (t && nat_eq m n)) (equal_operators o p)

pub equal_is_same : (x y : Expr) → (derived.eq-value).it x y ≡ same_expression x y
equal_is_same (Unary o a) (Unary p b) = one o p a b
equal_is_same (Binary a o u) (Binary b p v) = two o p a b u v
equal_is_same (Unary o a) (Binary b p v) = refl
equal_is_same (Binary a o u) (Unary p b) = refl

same_operators : (o p : Op) → same_operator o p ≡ true → o ≡ p
same_operators o p same = sym (sign_tells o) ∙ ap with_sign ((bytes_eq-Decides (sign_of o) (sign_of p)).0 same) ∙ sign_tells p

same_operands : (a b : Operand) → same_operand a b ≡ true → a ≡ b
same_operands (Variable x) (Variable y) same = ap Variable (let e : x ≡ y = grind arith in e)
same_operands (Number m) (Number n) same = ap Number (let e : m ≡ n = grind arith in e)
same_operands (Variable x) (Number n) same = absurd (cc same)
same_operands (Number m) (Variable y) same = absurd (cc same)

-- two that are the same expression are equal
pub same_is_equal : (x y : Expr) → same_expression x y ≡ true → x ≡ y
same_is_equal (Unary o a) (Unary p b) same =
    let (first, second) = and_parts (same_operator o p) (same_operand a b) same in
    ap₂ Unary (same_operators o p first) (same_operands a b second)
same_is_equal (Binary a o u) (Binary b p v) same =
    let (first, rest) = and_parts (same_operand a b) (same_operator o p && same_operand u v) same in
    let (second, third) = and_parts (same_operator o p) (same_operand u v) rest in
    ap₂ (λ c q. Binary c q u) (same_operands a b first) (same_operators o p second) ∙ ap (Binary b p) (same_operands u v third)
same_is_equal (Unary o a) (Binary b p v) same = absurd (cc same)
same_is_equal (Binary a o u) (Unary p b) same = absurd (cc same)
