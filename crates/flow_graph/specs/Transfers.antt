-- What each statement generates and kills in each analysis: the value beyond the statement is gen union (X minus kill), X being
-- the value before it in a forward analysis and after it in a backward one (Aho, Lam, Sethi, Ullman, 2nd edition, 9.2 and 9.5).
use Rattle.std.specs.Prelude.{ℕ, Bool, false, not, ◌&&◌, ◌||◌, List, [], ◌∷◌, option_map, slice_get, unwrap_or, nat_eq, is_some}
use Rattle.std.specs.List.{list_any}
use Rattle.tac_program.specs.Programs.{Program}
use Rattle.tac_program.specs.declared.program.Operand.{Operand}
use Rattle.tac_program.specs.declared.program.Operand.TheVariants.{Variable, Number}
use Rattle.tac_program.specs.declared.program.StmtKind.{StmtKind}
use Rattle.tac_program.specs.declared.program.StmtKind.TheVariants as kind
use Rattle.flow_graph.specs.Points.{kind_at}
use Rattle.flow_graph.specs.Universes.{Expr, Unary, Binary, Analysis, Reach, Live, Avail, Busy, Definition, target_at, definitions, expression_at}
use Rattle.flow_graph.specs.Universes.{expressions, same_expression}

abbrev pub names_variable : ℕ → Operand → Bool
names_variable x (Variable y) = nat_eq x y
names_variable x (Number n) = false

-- the operands that a statement reads
abbrev pub operands_of : StmtKind → List Operand
operands_of (kind.Copy x y) = y ∷ []
operands_of (kind.Unary x op y) = y ∷ []
operands_of (kind.Binary op x y z) = y ∷ z ∷ []
operands_of (kind.Goto label) = []
operands_of (kind.If y label) = y ∷ []
operands_of (kind.IfFalse y label) = y ∷ []
operands_of (kind.IfCompare op label y z) = y ∷ z ∷ []
operands_of (kind.Call callees) = []
operands_of kind.Return = []
operands_of (kind.Read x) = []
operands_of (kind.Print y) = y ∷ []
operands_of kind.Skip = []

-- whether the statement at a point reads the variable, and whether it writes it
abbrev pub reads : Program → ℕ → ℕ → Bool
reads program point x = list_any (names_variable x) (unwrap_or (option_map operands_of (kind_at program point)) [])

abbrev pub writes : Program → ℕ → ℕ → Bool
writes program point x = unwrap_or (option_map (nat_eq x) (target_at program point)) false

-- whether a variable is an operand of the expression, and whether the statement at a point writes an operand of it
abbrev pub has_operand : Expr → ℕ → Bool
has_operand (Unary op y) x = names_variable x y
has_operand (Binary y op z) x = names_variable x y || names_variable x z

abbrev pub changes : Program → ℕ → Expr → Bool
changes program point e = unwrap_or (option_map (has_operand e) (target_at program point)) false

-- whether the statement at a point evaluates the expression
abbrev pub evaluates : Program → ℕ → Expr → Bool
evaluates program point e = unwrap_or (option_map (same_expression e) (expression_at program point)) false

-- whether the definition is the one of the statement at the point
abbrev pub is_made_at : ℕ → Definition → Bool
is_made_at point d = unwrap_or (option_map (nat_eq point) d.1) false

-- Whether the statement at a point generates the bit.
--   reaching definitions: its own definition
--   live variables: the variables that it reads
--   available expressions: the expression that it evaluates, unless it writes an operand of it
--   very busy expressions: the expression that it evaluates
abbrev pub gens : Program → Analysis → ℕ → ℕ → Bool
gens program Reach point bit = unwrap_or (option_map (is_made_at point) (slice_get (definitions program) bit)) false
gens program Live point bit = reads program point bit
gens program Avail point bit =
    unwrap_or (option_map (λ e. evaluates program point e && not (changes program point e)) (slice_get (expressions program) bit)) false
gens program Busy point bit = unwrap_or (option_map (evaluates program point) (slice_get (expressions program) bit)) false

-- Whether it kills the bit.
--   reaching definitions: all other definitions of the variable that it writes, the dummy too
--   live variables: the variable that it writes
--   available expressions: the expressions with the variable that it writes as an operand
--   very busy expressions: those but for the one that it evaluates
abbrev pub kills : Program → Analysis → ℕ → ℕ → Bool
kills program Reach point bit =
    unwrap_or (option_map (λ d. writes program point d.0 && not (is_made_at point d)) (slice_get (definitions program) bit)) false
kills program Live point bit = writes program point bit
kills program Avail point bit = unwrap_or (option_map (changes program point) (slice_get (expressions program) bit)) false
kills program Busy point bit =
    unwrap_or (option_map (λ e. changes program point e && not (evaluates program point e)) (slice_get (expressions program) bit)) false

-- Whether the boundary has the bit: the dummy definitions for reaching definitions, nothing for the others.
abbrev pub is_in_boundary : Program → Analysis → ℕ → Bool
is_in_boundary program Reach bit = unwrap_or (option_map (λ d. not (is_some d.1)) (slice_get (definitions program) bit)) false
is_in_boundary program Live bit = false
is_in_boundary program Avail bit = false
is_in_boundary program Busy bit = false
