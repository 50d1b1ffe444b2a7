-- What the statement at a point is, as numbers.
use Rattle.std.specs.Prelude.{ℕ, Option, Some, None, unwrap_or}
use Rattle.flow_graph.specs.Edges.{label_point}
use Rattle.flow_graph.specs.Points.{kind_at, procedure_at}
use Rattle.flow_graph.specs.Universes.{evaluated_at}
use Rattle.tac_program.specs.Programs.{Program}
use Rattle.tac_program.specs.declared.program.StmtKind.{StmtKind}
use Rattle.tac_program.specs.declared.program.StmtKind.TheVariants as kind
use Rattle.flow_records.specs.Parts.{no_part, operand_part, operator_number}
use Rattle.flow_records.specs.declared.parts.Part.{Part}
use Rattle.flow_records.specs.declared.statements.NumberedStatement.{NumberedStatement}

-- the largest number of 32 bits stands for none
abbrev pub no_number : ℕ
no_number = 4294967295

-- a statement of this kind with its target, operator, label and operands
abbrev pub statement_with : ℕ → ℕ → ℕ → ℕ → Part → Part → NumberedStatement
statement_with kind target operator label left right = record {
  kind = kind;
  target = target;
  operator = operator;
  label = label;
  goes_to = no_number;
  expression = no_number;
  left = left;
  right = right;
}

-- no statement, as at a procedure's end
abbrev pub no_statement : NumberedStatement
no_statement = statement_with 0 no_number no_number no_number no_part no_part

-- a statement by itself: one operand stands on the right, as that of a unary operator
abbrev pub statement_alone : StmtKind → NumberedStatement
statement_alone (kind.Copy x y) = statement_with 1 x no_number no_number no_part (operand_part y)
statement_alone (kind.Unary x o y) = statement_with 2 x (operator_number o) no_number no_part (operand_part y)
statement_alone (kind.Binary o x y z) = statement_with 3 x (operator_number o) no_number (operand_part y) (operand_part z)
statement_alone (kind.Goto l) = statement_with 4 no_number no_number l no_part no_part
statement_alone (kind.If y l) = statement_with 5 no_number no_number l no_part (operand_part y)
statement_alone (kind.IfFalse y l) = statement_with 6 no_number no_number l no_part (operand_part y)
statement_alone (kind.IfCompare o l y z) = statement_with 7 no_number (operator_number o) l (operand_part y) (operand_part z)
statement_alone (kind.Call callees) = statement_with 8 no_number no_number no_number no_part no_part
statement_alone kind.Return = statement_with 9 no_number no_number no_number no_part no_part
statement_alone (kind.Read x) = statement_with 10 x no_number no_number no_part no_part
statement_alone (kind.Print y) = statement_with 11 no_number no_number no_number no_part (operand_part y)
statement_alone kind.Skip = statement_with 12 no_number no_number no_number no_part no_part

-- the label that a statement names
abbrev pub label_named : StmtKind → Option ℕ
label_named (kind.Copy x y) = None
label_named (kind.Unary x o y) = None
label_named (kind.Binary o x y z) = None
label_named (kind.Goto l) = Some l
label_named (kind.If y l) = Some l
label_named (kind.IfFalse y l) = Some l
label_named (kind.IfCompare o l y z) = Some l
label_named (kind.Call callees) = None
label_named kind.Return = None
label_named (kind.Read x) = None
label_named (kind.Print y) = None
label_named kind.Skip = None

-- the point that it stands for
abbrev pub goes_to : Program → ℕ → StmtKind → ℕ
goes_to program point k =
    elim (label_named k) [ Some label ↦ label_point program (procedure_at program point) label | None ↦ no_number ]

-- what stands at a point: a statement, with the point to which it may jump and the expression that it evaluates, or none
abbrev pub statement_part : Program → ℕ → NumberedStatement
statement_part program point =
    elim (kind_at program point) [
      | Some k ↦ record (statement_alone k) { goes_to = goes_to program point k; expression = unwrap_or (evaluated_at program point) no_number }
      | None ↦ no_statement
    ]
