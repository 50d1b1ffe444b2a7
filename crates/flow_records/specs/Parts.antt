-- What a program's points and bits are, as numbers.
use Rattle.std.specs.Prelude.{◌≡◌, ℕ, ◌<◌, List, length, Option, Some, None, slice_get}
use Rattle.flow_graph.specs.Points.{place_of, point_count, statement_at}
use Rattle.flow_graph.specs.Universes.{Definition, bits}
use Rattle.flow_graph.specs.declared.analysis.Analysis.TheVariants.{Reach, Live, Avail}
use Rattle.flow_graph.specs.declared.expression.Expr.{Expr}
use Rattle.flow_graph.specs.declared.expression.Expr.TheVariants.{Unary, Binary}
use Rattle.tac_program.specs.Programs.{Program}
use Rattle.tac_program.specs.declared.program.Op.{Op}
use Rattle.tac_program.specs.declared.program.Op.TheVariants as op
use Rattle.tac_program.specs.declared.program.Operand.{Operand}
use Rattle.tac_program.specs.declared.program.Operand.TheVariants.{Variable, Number}
use Rattle.tac_program.specs.declared.program.Span.{Span}
use Rattle.tac_program.specs.declared.program.Stmt.{Stmt}
use Rattle.flow_records.specs.declared.parts.Definition.{Definition as DefinitionPart}
use Rattle.flow_records.specs.declared.parts.Expression.{Expression}
use Rattle.flow_records.specs.declared.parts.Part.{Part}
use Rattle.flow_records.specs.declared.parts.Point.{Point}
use Rattle.flow_records.specs.declared.parts.Sizes.{Sizes}

abbrev pub sizes_of : Program → Sizes
sizes_of program = record {
  procedures = length program.procedures;
  points = point_count program;
  variables = bits program Live;
  definitions = bits program Reach;
  expressions = bits program Avail;
}

-- the span of a statement; zeros where there is none
abbrev pub span_of : Option Stmt → Span
span_of (Some statement) = statement.span
span_of None = record { line = 0; start = 0; end = 0 }

abbrev pub point_part : Program → ℕ → Point
point_part program point = record {
  procedure = (place_of program point).procedure;
  place = (place_of program point).place;
  line = (span_of (statement_at program point)).line;
  start = (span_of (statement_at program point)).start;
  end = (span_of (statement_at program point)).end;
}

-- the largest number of 32 bits stands for no point
abbrev pub definition_part : Definition → DefinitionPart
definition_part (variable, Some point) = record { variable = variable; point = point }
definition_part (variable, None) = record { variable = variable; point = 4294967295 }

abbrev pub operator_number : Op → ℕ
operator_number op.Plus = 0
operator_number op.Minus = 1
operator_number op.Star = 2
operator_number op.Slash = 3
operator_number op.Percent = 4
operator_number op.And = 5
operator_number op.Or = 6
operator_number op.Caret = 7
operator_number op.ShiftLeft = 8
operator_number op.ShiftRight = 9
operator_number op.Less = 10
operator_number op.LessEqual = 11
operator_number op.Greater = 12
operator_number op.GreaterEqual = 13
operator_number op.Equal = 14
operator_number op.NotEqual = 15
operator_number op.Tilde = 16
operator_number op.Bang = 17

abbrev pub no_part : Part
no_part = record { kind = 0; variable = 0; number = 0 }

abbrev pub operand_part : Operand → Part
operand_part (Variable variable) = record { kind = 1; variable = variable; number = 0 }
operand_part (Number number) = record { kind = 2; variable = 0; number = number }

abbrev pub expression_part : Expr → Expression
expression_part (Unary o right) = record { operator = operator_number o; left = no_part; right = operand_part right }
expression_part (Binary left o right) = record { operator = operator_number o; left = operand_part left; right = operand_part right }

-- one part for each number below a count
pub record AreParts {A : Type 0} (part : ℕ → A) (count : ℕ) (parts : List A) : Type 0 where
  pub same_count : length parts ≡ count
  pub each : (n : ℕ) → n < count → slice_get parts n ≡ Some (part n)

-- one part for each item of a list
pub record ArePartsOf {A B : Type 0} (part : A → B) (items : List A) (parts : List B) : Type 0 where
  pub same_count : length parts ≡ length items
  pub each : (n : ℕ) (item : A) → slice_get items n ≡ Some item → slice_get parts n ≡ Some (part item)
