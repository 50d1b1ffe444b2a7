-- What the bits of each analysis stand for, and how they are numbered: definitions for reaching definitions, variables for
-- live variables, expressions for available and for very busy expressions (Aho, Lam, Sethi, Ullman, 2nd edition, 9.2 and 9.5).
use Rattle.std.specs.Prelude.{ℕ, ◌<◌, Bool, IfSome, false, ◌&&◌, List, [], ◌∷◌, ◌++◌, map, flat_map, fold, length, Option, Some, None}
use Rattle.std.specs.Prelude.{option_and_then, position, nat_eq, if◌then◌else◌, bytes_eq}
use Rattle.std.specs.List.{list_any, range_with_len}
use Rattle.tac_program.specs.Programs.{Program}
use Rattle.tac_program.specs.Spelling.{sign_of}
use Rattle.tac_program.specs.declared.program.Op.{Op}
use Rattle.tac_program.specs.declared.program.Operand.{Operand}
use Rattle.tac_program.specs.declared.program.Operand.TheVariants.{Variable, Number}
use Rattle.tac_program.specs.declared.program.StmtKind.{StmtKind}
use Rattle.tac_program.specs.declared.program.StmtKind.TheVariants as kind
pub use Rattle.flow_graph.specs.declared.expression.Expr.{Expr}
pub use Rattle.flow_graph.specs.declared.expression.Expr.TheVariants.{Unary, Binary}
pub use Rattle.flow_graph.specs.declared.analysis.Analysis.{Analysis}
pub use Rattle.flow_graph.specs.declared.analysis.Analysis.TheVariants.{Reach, Live, Avail, Busy}
use Rattle.flow_graph.specs.Points.{points, point_count, kind_at}

-- the variable that a statement defines
abbrev pub defined_variable : StmtKind → Option ℕ
defined_variable (kind.Copy x y) = Some x
defined_variable (kind.Unary x op y) = Some x
defined_variable (kind.Binary op x y z) = Some x
defined_variable (kind.Goto label) = None
defined_variable (kind.If y label) = None
defined_variable (kind.IfFalse y label) = None
defined_variable (kind.IfCompare op label y z) = None
defined_variable (kind.Call callees) = None
defined_variable kind.Return = None
defined_variable (kind.Read x) = Some x
defined_variable (kind.Print y) = None
defined_variable kind.Skip = None

abbrev pub target_at : Program → ℕ → Option ℕ
target_at program point = option_and_then defined_variable (kind_at program point)

-- A definition: its variable, and the point of the statement that makes it. The dummy definition of a variable stands for
-- the value at the program's beginning and has no point.
abbrev pub Definition : Type 0
Definition = ℕ × Option ℕ

abbrev pub definition_at : Program → ℕ → List Definition
definition_at program point = elim (target_at program point) [ Some x ↦ (x, Some point) ∷ [] | None ↦ [] ]

-- first the dummies in the order of variables, then the others in text order
abbrev pub dummies : Program → List Definition
dummies program = map (λ x. (x, None)) (range_with_len 0 (length program.variable_names))

abbrev pub definitions : Program → List Definition
definitions program = dummies program ++ flat_map (definition_at program) (points program)

-- it is of a variable of the program, and its statement stands at a point of the program
pub record IsDefinitionIn (program : Program) (definition : Definition) : Type 0 where
  pub variable : definition.0 < length program.variable_names
  pub point : IfSome definition.1 (λ point. point < point_count program)

-- the expression that a statement evaluates: the right side of a unary or binary assignment
abbrev pub expression_of : StmtKind → Option Expr
expression_of (kind.Copy x y) = None
expression_of (kind.Unary x op y) = Some (Unary op y)
expression_of (kind.Binary op x y z) = Some (Binary y op z)
expression_of (kind.Goto label) = None
expression_of (kind.If y label) = None
expression_of (kind.IfFalse y label) = None
expression_of (kind.IfCompare op label y z) = None
expression_of (kind.Call callees) = None
expression_of kind.Return = None
expression_of (kind.Read x) = None
expression_of (kind.Print y) = None
expression_of kind.Skip = None

abbrev pub expression_at : Program → ℕ → Option Expr
expression_at program point = option_and_then expression_of (kind_at program point)

-- two expressions are one where the operator is the same and so are the operands, in their order
abbrev pub same_operand : Operand → Operand → Bool
same_operand (Variable x) (Variable y) = nat_eq x y
same_operand (Number m) (Number n) = nat_eq m n
same_operand _ _ = false

abbrev pub same_operator : Op → Op → Bool
same_operator o p = bytes_eq (sign_of o) (sign_of p)

abbrev pub same_expression : Expr → Expr → Bool
same_expression (Unary o y) (Unary p z) = same_operator o p && same_operand y z
same_expression (Binary x o y) (Binary u p v) = same_operand x u && (same_operator o p && same_operand y v)
same_expression _ _ = false

-- the expressions of the statements, each once, by first occurrence in the text
abbrev pub noted : List Expr → Expr → List Expr
noted known e = if list_any (same_expression e) known then known else known ++ e ∷ []

abbrev pub some_expression : Option Expr → List Expr
some_expression None = []
some_expression (Some e) = e ∷ []

abbrev pub expressions : Program → List Expr
expressions program = fold noted [] (flat_map (λ point. some_expression (expression_at program point)) (points program))

-- the number of the expression that the statement at a point evaluates
abbrev pub evaluated_at : Program → ℕ → Option ℕ
evaluated_at program point = option_and_then (λ e. position (same_expression e) (expressions program)) (expression_at program point)

-- how many bits an analysis has
abbrev pub bits : Program → Analysis → ℕ
bits program Reach = length (definitions program)
bits program Live = length program.variable_names
bits program Avail = length (expressions program)
bits program Busy = length (expressions program)
