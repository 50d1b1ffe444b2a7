-- What a statement reads, evaluates and assigns is there.
use Rattle.std.proofs.Common.{◌≡◌, ℕ, ◌+◌, ◌<◌, ◌≤◌, Bool, true, false, ◌||◌, List, [], ◌∷◌, length, flat_map, position}
use Rattle.std.proofs.Common.{Option, Some, None, option_and_then, option_map, unwrap_or, nat_eq, refl, sym, ap, ◌∙◌, arith}
use Rattle.std.proofs.Common.{length-append}
use Rattle.std.specs.List.{filter, list_any, range_with_len}
use Rattle.std.proofs.lemmas.List.FromFn.{length-map-range_with_len}
use Rattle.std.proofs.lemmas.List.Quantifiers.{position-Some}
use Rattle.std.proofs.Math.Bool.{or-true}
use Rattle.std.proofs.lemmas.Bool.{eq-eqb}
use Rattle.tac_program.specs.Programs.{Program}
use Rattle.tac_program.specs.Sound.{IsSound, IsSoundOperand}
use Rattle.tac_program.specs.declared.program.Operand.{Operand}
use Rattle.tac_program.specs.declared.program.Operand.TheVariants.{Variable, Number}
use Rattle.tac_program.specs.declared.program.StmtKind.{StmtKind}
use Rattle.tac_program.specs.declared.program.StmtKind.TheVariants as kind
use Rattle.flow_graph.specs.Points.{kind_at, point_count, points}
use Rattle.flow_graph.specs.Transfers.{names_variable, operands_of, reads}
use Rattle.flow_graph.specs.Universes.{bits, evaluated_at, expression_at, expressions, same_expression, definition_at, dummies, Definition}
use Rattle.flow_graph.specs.declared.analysis.Analysis.TheVariants.{Avail, Reach}
use Rattle.flow_graph.specs.declared.expression.Expr.{Expr}
use Rattle.flow_graph.proofs.edges.EdgeLemmas.{next_in}
use Rattle.flow_graph.proofs.places.Standing.{Stands, stands}
use Rattle.report_answers.specs.code.Operands.{AreRead}
use Rattle.report_answers.specs.Statements.{assigned, is_test}
use Rattle.report_answers.proofs.queries.Rising.{rises, filter_rising}

-- each variable has a definition, its dummy, of the variable's number
pub variables_have_dummies : (program : Program) → length program.variable_names ≤ bits program Reach
variables_have_dummies program =
    let so_many : length (dummies program) ≡ length program.variable_names =
    length-map-range_with_len (λ (x : ℕ). let d : Definition = (x, None) in d) 0 (length program.variable_names) in
    omega (arith, so_many, length-append (dummies program) (flat_map (definition_at program) (points program)))

-- a variable that a sound operand reads is there
operand_there : (variables x : ℕ) (y : Operand) → IsSoundOperand variables y → names_variable x y ≡ true → x < variables
operand_there variables x (Variable y) sound reading =
    let same : x ≡ y = grind arith in
    omega (arith, same, sound)
operand_there variables x (Number n) sound reading = absurd (cc reading)

one_there : (variables x : ℕ) (y : Operand) → IsSoundOperand variables y → list_any (names_variable x) (y ∷ []) ≡ true → x < variables
one_there variables x y sound reading = by_test (names_variable x y) refl reading
  where
    by_test : (b : Bool) → names_variable x y ≡ b → (b || false) ≡ true → x < variables
    by_test true is any = operand_there variables x y sound is
    by_test false is any = absurd (cc any)

two_there : (variables x : ℕ) (y z : Operand) → IsSoundOperand variables y → IsSoundOperand variables z
    → list_any (names_variable x) (y ∷ z ∷ []) ≡ true → x < variables
two_there variables x y z left right reading = by_test (names_variable x y) refl reading
  where
    by_test : (b : Bool) → names_variable x y ≡ b → (b || list_any (names_variable x) (z ∷ [])) ≡ true → x < variables
    by_test true is any = operand_there variables x y left is
    by_test false is any = one_there variables x z right any

pub read_there : (program : Program) (point x : ℕ) (k : StmtKind) → Stands program point k → list_any (names_variable x) (operands_of k) ≡ true
    → x < length program.variable_names
read_there program point x (kind.Copy t y) stand reading = one_there (length program.variable_names) x y stand.sound.1 reading
read_there program point x (kind.Unary t o y) stand reading = one_there (length program.variable_names) x y stand.sound.operand reading
read_there program point x (kind.Binary o t y z) stand reading =
    two_there (length program.variable_names) x y z stand.sound.left stand.sound.right reading
read_there program point x (kind.Goto l) stand reading = absurd (cc reading)
read_there program point x (kind.If y l) stand reading = one_there (length program.variable_names) x y stand.sound.0 reading
read_there program point x (kind.IfFalse y l) stand reading = one_there (length program.variable_names) x y stand.sound.0 reading
read_there program point x (kind.IfCompare o l y z) stand reading =
    two_there (length program.variable_names) x y z stand.sound.left stand.sound.right reading
read_there program point x (kind.Call ps) stand reading = absurd (cc reading)
read_there program point x kind.Return stand reading = absurd (cc reading)
read_there program point x (kind.Read t) stand reading = absurd (cc reading)
read_there program point x (kind.Print y) stand reading = one_there (length program.variable_names) x y stand.sound reading
read_there program point x kind.Skip stand reading = absurd (cc reading)

pub variables_are_there : (program : Program) (point : ℕ) (k : StmtKind) (variables : List ℕ) → IsSound program → point < point_count program
    → kind_at program point ≡ Some k → AreRead k variables
    → (x : ℕ) → list_any (nat_eq x) variables ≡ true → x < length program.variable_names
variables_are_there program point k variables sound below at are x any =
    read_there program point x k (stands program sound point k below at) (sym (are.read x) ∙ any)

-- each stands among them
pub first_of : (x : ℕ) (xs : List ℕ) → list_any (nat_eq x) (x ∷ xs) ≡ true
first_of x xs = ap (λ t. t || list_any (nat_eq x) xs) (eq-eqb x x refl)

pub second_of : (x y : ℕ) → list_any (nat_eq y) (x ∷ y ∷ []) ≡ true
second_of x y = ap (λ t. nat_eq y x || t) (first_of y []) ∙ or-true (nat_eq y x)

-- they are those of all variables that it reads
pub read_are : (program : Program) (point : ℕ) (k : StmtKind) (variables : List ℕ) → IsSound program → point < point_count program
    → kind_at program point ≡ Some k → AreRead k variables
    → filter (reads program point) (range_with_len 0 (length program.variable_names)) ≡ variables
read_are program point k variables sound below at are =
    filter_rising (length program.variable_names) 0 variables (reads program point) (rises variables are.rising)
    (λ x any. omega (arith, variables_are_there program point k variables sound below at are x any))
    (λ x above. are.read x ∙ ap (λ o. list_any (names_variable x) (unwrap_or (option_map operands_of o) [])) (sym at))

-- there is one such list
pub same_read : (program : Program) (point : ℕ) (k : StmtKind) (one other : List ℕ) → IsSound program → point < point_count program
    → kind_at program point ≡ Some k
    → AreRead k one → AreRead k other → one ≡ other
same_read program point k one other sound below at are_one are_other =
    sym (read_are program point k one sound below at are_one) ∙ read_are program point k other sound below at are_other

-- the expression that a statement evaluates is one of all
evaluated_among : (program : Program) (bit : ℕ) (o : Option Expr)
    → option_and_then (λ e. position (same_expression e) (expressions program)) o ≡ Some bit → bit < bits program Avail
evaluated_among program bit None is = absurd (cc is)
evaluated_among program bit (Some e) is = (position-Some (same_expression e) (expressions program) bit e is).0

pub evaluated_there : (program : Program) (point bit : ℕ) → evaluated_at program point ≡ Some bit → bit < bits program Avail
evaluated_there program point bit is = evaluated_among program bit (expression_at program point) is

-- what an assignment sets is there
pub assigned_there : (program : Program) (point x : ℕ) (k : StmtKind) → Stands program point k → assigned k ≡ Some x
    → x < length program.variable_names
assigned_there program point x (kind.Copy t y) stand sets = let same : t ≡ x = cc in omega (arith, stand.sound.0, same)
assigned_there program point x (kind.Unary t o y) stand sets = let same : t ≡ x = cc in omega (arith, stand.sound.target, same)
assigned_there program point x (kind.Binary o t y z) stand sets = let same : t ≡ x = cc in omega (arith, stand.sound.target, same)
assigned_there program point x (kind.Goto l) stand sets = absurd (cc sets)
assigned_there program point x (kind.If y l) stand sets = absurd (cc sets)
assigned_there program point x (kind.IfFalse y l) stand sets = absurd (cc sets)
assigned_there program point x (kind.IfCompare o l y z) stand sets = absurd (cc sets)
assigned_there program point x (kind.Call ps) stand sets = absurd (cc sets)
assigned_there program point x kind.Return stand sets = absurd (cc sets)
assigned_there program point x (kind.Read t) stand sets = absurd (cc sets)
assigned_there program point x (kind.Print y) stand sets = absurd (cc sets)
assigned_there program point x kind.Skip stand sets = absurd (cc sets)

-- the point after a statement is a point
pub next_below : (program : Program) (point : ℕ) (k : StmtKind) → Stands program point k → point + 1 < point_count program
next_below program point k stand = omega (arith, (next_in program point k stand).below)

-- a test assigns nothing
pub tests_assign_nothing : (k : StmtKind) → is_test k ≡ true → assigned k ≡ None
tests_assign_nothing (kind.Copy x y) is = absurd (cc is)
tests_assign_nothing (kind.Unary x o y) is = absurd (cc is)
tests_assign_nothing (kind.Binary o x y z) is = absurd (cc is)
tests_assign_nothing (kind.Goto l) is = refl
tests_assign_nothing (kind.If y l) is = refl
tests_assign_nothing (kind.IfFalse y l) is = refl
tests_assign_nothing (kind.IfCompare o l y z) is = refl
tests_assign_nothing (kind.Call cs) is = refl
tests_assign_nothing kind.Return is = refl
tests_assign_nothing (kind.Read x) is = refl
tests_assign_nothing (kind.Print y) is = refl
tests_assign_nothing kind.Skip is = refl
