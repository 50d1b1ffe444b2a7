-- Expressions that are noted, and their numbers
use Rattle.std.proofs.Common.{◌≡◌, ℕ, suc, ◌+◌, ◌<◌, ◌≤◌, Bool, true, false, not, ◌||◌, List, [], ◌∷◌, ◌++◌, length, Option, Some, None, cond, nat_lt}
use Rattle.std.proofs.Common.{position, if◌then◌else◌, fold, option_and_then, refl, sym, ap, ap₂, ◌∙◌, append-nil, arith, length-append}
use Rattle.std.specs.List.{list_any, prefix_len, position_or_len}
use Rattle.std.proofs.lemmas.Bool.{lt-ltb}
use Rattle.std.proofs.lemmas.Slice.Eq.{bytes_eq-Decides}
use Rattle.tac_program.specs.Spelling.{sign_of}
use Rattle.tac_program.specs.declared.program.Operand.{Operand}
use Rattle.tac_program.specs.declared.program.Operand.TheVariants.{Variable, Number}
use Rattle.flow_graph.specs.Universes.{Expr, Unary, Binary, same_expression, same_operand, noted, some_expression}
use Rattle.flow_graph.specs.code.Evaluated.{IsNumberOf}
use Rattle.flow_graph.proofs.bits.ExpressionEquality.{equal_is_same}
use Rattle.flow_graph.specs.contracts.expression.ExprPartialEq.TheImpl as derived

module _ {A : Type 0} where
  first-within : (p : A → Bool) (xs : List A) → list_any p xs ≡ true → prefix_len (λ x. not (p x)) xs < length xs
  first-within p [] any = absurd (cc any)
  first-within p (x ∷ xs) any = by_test (p x) refl any (first-within p xs)
    where
      by_test : (t : Bool) → p x ≡ t → (t || list_any p xs) ≡ true → (list_any p xs ≡ true → prefix_len (λ y. not (p y)) xs < length xs)
          → cond (not t) (1 + prefix_len (λ y. not (p y)) xs) 0 < suc (length xs)
      by_test true is any rest = omega arith
      by_test false is any rest = let below = rest any in omega arith

  none-within : (p : A → Bool) (xs ys : List A) → list_any p xs ≡ false
      → prefix_len (λ x. not (p x)) (xs ++ ys) ≡ length xs + prefix_len (λ x. not (p x)) ys
  none-within p [] ys none = omega arith
  none-within p (x ∷ xs) ys none = by_test (p x) refl none (none-within p xs ys)
    where
      by_test : (t : Bool) → p x ≡ t → (t || list_any p xs) ≡ false
          → (list_any p xs ≡ false → prefix_len (λ y. not (p y)) (xs ++ ys) ≡ length xs + prefix_len (λ y. not (p y)) ys)
          → cond (not t) (1 + prefix_len (λ y. not (p y)) (xs ++ ys)) 0 ≡ suc (length xs) + prefix_len (λ y. not (p y)) ys
      by_test true is none rest = absurd (cc none)
      by_test false is none rest = let same = rest none in omega arith

  -- an element that is there keeps its place
  pub position-found : (p : A → Bool) (xs : List A) → prefix_len (λ x. not (p x)) xs < length xs
      → position p xs ≡ Some (prefix_len (λ x. not (p x)) xs)
  position-found p xs below = ap (λ t. cond t (let o : Option ℕ = Some (prefix_len (λ x. not (p x)) xs) in o) None)
      (lt-ltb (prefix_len (λ x. not (p x)) xs) (length xs) below)

  pub position-put : (p : A → Bool) (x : A) (xs : List A) → p x ≡ true
      → position p (if list_any p xs then xs else xs ++ x ∷ []) ≡ Some (position_or_len p xs)
  position-put p x xs is = by_test (list_any p xs) refl
    where
      by_test : (t : Bool) → list_any p xs ≡ t → position p (if t then xs else xs ++ x ∷ []) ≡ Some (position_or_len p xs)
      by_test true any = position-found p xs (first-within p xs any)
      by_test false none =
          let last : prefix_len (λ y. not (p y)) (x ∷ []) ≡ 0 = rw is refl in
          let place : prefix_len (λ y. not (p y)) (xs ++ x ∷ []) ≡ length xs = none-within p xs (x ∷ []) none ∙ (omega (arith, last)) in
          let alone : prefix_len (λ y. not (p y)) xs ≡ length xs =
          ap (prefix_len (λ y. not (p y))) (sym (append-nil xs)) ∙ none-within p xs [] none ∙ (omega arith) in
          let below : prefix_len (λ y. not (p y)) (xs ++ x ∷ []) < length (xs ++ x ∷ []) = omega (arith, place, length-append xs (x ∷ [])) in
          position-found p (xs ++ x ∷ []) below ∙ ap (λ n. let o : Option ℕ = Some n in o) (place ∙ sym alone)

  stays : (q : A → Bool) (xs ys : List A) → prefix_len q xs < length xs → prefix_len q (xs ++ ys) ≡ prefix_len q xs
  stays q [] ys below = absurd (omega arith)
  stays q (x ∷ xs) ys below = by_test (q x) refl below (stays q xs ys)
    where
      by_test : (t : Bool) → q x ≡ t → cond t (1 + prefix_len q xs) 0 < suc (length xs)
          → (prefix_len q xs < length xs → prefix_len q (xs ++ ys) ≡ prefix_len q xs)
          → cond t (1 + prefix_len q (xs ++ ys)) 0 ≡ cond t (1 + prefix_len q xs) 0
      by_test true is below rest = ap (λ n. 1 + n) (rest (omega arith))
      by_test false is below rest = refl

  -- and keeps it where more are put behind it
  pub position-stays : (p : A → Bool) (xs ys : List A) (n : ℕ) → position p xs ≡ Some n → position p (xs ++ ys) ≡ Some n
  position-stays p xs ys n found = by_test (nat_lt (prefix_len (λ x. not (p x)) xs) (length xs)) refl found
    where
      by_test : (t : Bool) → nat_lt (prefix_len (λ x. not (p x)) xs) (length xs) ≡ t
          → cond t (let o : Option ℕ = Some (prefix_len (λ x. not (p x)) xs) in o) None ≡ Some n → position p (xs ++ ys) ≡ Some n
      by_test false is found = absurd (cc found)
      by_test true is found =
          let below : prefix_len (λ x. not (p x)) xs < length xs = grind arith in
          let same : prefix_len (λ x. not (p x)) (xs ++ ys) ≡ prefix_len (λ x. not (p x)) xs = stays (λ x. not (p x)) xs ys below in
          position-found p (xs ++ ys) (omega (arith, same, length-append xs ys)) ∙ ap (λ n. let o : Option ℕ = Some n in o) same ∙ found

same_as_itself : (y : Operand) → same_operand y y ≡ true
same_as_itself (Variable x) = grind arith
same_as_itself (Number n) = grind arith

pub is_itself : (e : Expr) → same_expression e e ≡ true
is_itself (Unary o y) = rw (same_as_itself y, (bytes_eq-Decides (sign_of o) (sign_of o)).1 refl) refl
is_itself (Binary x o y) = rw (same_as_itself x, same_as_itself y, (bytes_eq-Decides (sign_of o) (sign_of o)).1 refl) refl

is-any : (e : Expr) (known : List Expr) → list_any ((derived.eq-value).it e) known ≡ list_any (same_expression e) known
is-any e [] = refl
is-any e (x ∷ known) = ap₂ (λ a b. a || b) (equal_is_same e x) (is-any e known)

is-place : (e : Expr) (known : List Expr) → position_or_len ((derived.eq-value).it e) known ≡ position_or_len (same_expression e) known
is-place e [] = refl
is-place e (x ∷ known) = ap₂ (λ a b. cond (not a) (1 + b) 0) (equal_is_same e x) (is-place e known)

-- what a set of expressions notes
pub set-notes : (e : Expr) (known : List Expr) → (if list_any ((derived.eq-value).it e) known then known else known ++ e ∷ []) ≡ noted known e
set-notes e known = ap (λ t. if t then known else known ++ e ∷ []) (is-any e known)

pub set-numbers : (e : Expr) (known : List Expr)
    → position (same_expression e) (noted known e) ≡ Some (position_or_len ((derived.eq-value).it e) known)
set-numbers e known = position-put (same_expression e) e known (is_itself e) ∙ ap (λ n. let o : Option ℕ = Some n in o) (sym (is-place e known))

-- noting keeps the numbers of those that are known
pub number-stays : (e x : Expr) (known : List Expr) (n : ℕ) → position (same_expression e) known ≡ Some n
    → position (same_expression e) (noted known x) ≡ Some n
number-stays e x known n found = by_test (list_any (same_expression x) known)
  where
    by_test : (t : Bool) → position (same_expression e) (if t then known else known ++ x ∷ []) ≡ Some n
    by_test true = found
    by_test false = position-stays (same_expression e) known (x ∷ []) n found

-- what is numbered stays numbered, and one more is known at most
pub numbers-stay : (old : List Expr) (added x : Option Expr) (number : Option ℕ) → IsNumberOf old x number
    → IsNumberOf (fold noted old (some_expression added)) x number
numbers-stay old None x number is = is
numbers-stay old (Some e) None number is = is
numbers-stay old (Some e) (Some x) number is = (is.0, is.1, number-stays x e old is.0 is.2)

pub one_more_noted : (old : List Expr) (added : Option Expr) → length (fold noted old (some_expression added)) ≤ length old + 1
one_more_noted old None = omega arith
one_more_noted old (Some e) = by_test (list_any (same_expression e) old)
  where
    by_test : (t : Bool) → length (if t then old else old ++ e ∷ []) ≤ length old + 1
    by_test true = omega arith
    by_test false = omega (arith, length-append old (e ∷ []))

-- the number of an expression is unique
pub number_is : (known : List Expr) (x : Option Expr) (number : Option ℕ) → IsNumberOf known x number
    → number ≡ option_and_then (λ e. position (same_expression e) known) x
number_is known None number is = is
number_is known (Some e) number is = is.1 ∙ sym is.2
