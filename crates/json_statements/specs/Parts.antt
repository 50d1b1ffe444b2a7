-- What statements, definitions and expressions are made of, as objects of JSON: variables, procedures and points by number, operators by sign.
use Rattle.std.specs.Prelude.{ℕ, List, [], ◌∷◌, ◌++◌, map, Option, Some, None, codes, decimal}
use Rattle.flow_graph.specs.Points.{statement_at}
use Rattle.flow_graph.specs.Universes.{Definition}
use Rattle.flow_graph.specs.declared.expression.Expr.{Expr}
use Rattle.flow_graph.specs.declared.expression.Expr.TheVariants.{Unary, Binary}
use Rattle.flow_views.specs.Json.{array}
use Rattle.tac_program.specs.Programs.{Program}
use Rattle.tac_program.specs.Spelling.{sign_of}
use Rattle.tac_program.specs.declared.program.Op.{Op}
use Rattle.tac_program.specs.declared.program.Operand.{Operand}
use Rattle.tac_program.specs.declared.program.Operand.TheVariants.{Variable, Number}
use Rattle.tac_program.specs.declared.program.StmtKind.{StmtKind}
use Rattle.tac_program.specs.declared.program.StmtKind.TheVariants as kind

abbrev pub operand_object : Operand → List ℕ
operand_object (Variable v) = codes "{\"variable\":" ++ decimal v ++ codes "}"
operand_object (Number n) = codes "{\"number\":" ++ decimal n ++ codes "}"

abbrev pub operands_field : List Operand → List ℕ
operands_field operands = codes ",\"operands\":" ++ array (map operand_object operands)

-- no sign needs an escape
abbrev pub operator_field : Op → List ℕ
operator_field op = codes ",\"operator\":\"" ++ sign_of op ++ codes "\""

-- the variable that is assigned
abbrev pub target_field : ℕ → List ℕ
target_field variable = codes ",\"target\":" ++ decimal variable

-- the procedures that may be called
abbrev pub callees_field : List ℕ → List ℕ
callees_field callees = codes ",\"callees\":" ++ array (map decimal callees)

abbrev pub kind_field : List ℕ → List ℕ
kind_field name = codes "{\"kind\":\"" ++ name ++ codes "\""

-- Where a jump leads its edges tell.
abbrev pub statement_parts : StmtKind → List ℕ
statement_parts (kind.Copy x y) = kind_field (codes "copy") ++ target_field x ++ operands_field (y ∷ []) ++ codes "}"
statement_parts (kind.Unary x op y) = kind_field (codes "unary") ++ target_field x ++ operator_field op ++ operands_field (y ∷ []) ++ codes "}"
statement_parts (kind.Binary op x y z) = kind_field (codes "binary") ++ target_field x ++ operator_field op ++ operands_field (y ∷ z ∷ []) ++ codes "}"
statement_parts (kind.Goto label) = kind_field (codes "goto") ++ codes "}"
statement_parts (kind.If y label) = kind_field (codes "if") ++ operands_field (y ∷ []) ++ codes "}"
statement_parts (kind.IfFalse y label) = kind_field (codes "if_false") ++ operands_field (y ∷ []) ++ codes "}"
statement_parts (kind.IfCompare op label y z) = kind_field (codes "if_compare") ++ operator_field op ++ operands_field (y ∷ z ∷ []) ++ codes "}"
statement_parts (kind.Call callees) = kind_field (codes "call") ++ callees_field callees ++ codes "}"
statement_parts kind.Return = kind_field (codes "return") ++ codes "}"
statement_parts (kind.Read x) = kind_field (codes "read") ++ target_field x ++ codes "}"
statement_parts (kind.Print y) = kind_field (codes "print") ++ operands_field (y ∷ []) ++ codes "}"
statement_parts kind.Skip = kind_field (codes "skip") ++ codes "}"

-- the parts of the statement at a point; at a procedure's end there is none
abbrev pub parts_at : Program → ℕ → List ℕ
parts_at program point = elim (statement_at program point) [ Some statement ↦ statement_parts statement.kind | None ↦ codes "null" ]

-- the bytes of the statement at a point, from 0: the first one, and the one behind the last
abbrev pub bytes_at : Program → ℕ → List ℕ
bytes_at program point = elim (statement_at program point) [
  | Some statement ↦ codes ",\"start\":" ++ decimal statement.span.start ++ codes ",\"end\":" ++ decimal statement.span.end
  | None ↦ codes ",\"start\":null,\"end\":null"
]

abbrev pub parts_fields : Program → ℕ → List ℕ
parts_fields program point = codes ",\"parts\":" ++ parts_at program point ++ bytes_at program point

abbrev pub point_or_null : Option ℕ → List ℕ
point_or_null (Some point) = decimal point
point_or_null None = codes "null"

-- a definition: its variable, and the point that makes it; the one that stands for the value at the program's beginning has none
abbrev pub definition_object : Definition → List ℕ
definition_object (variable, point) = codes "{\"variable\":" ++ decimal variable ++ codes ",\"point\":" ++ point_or_null point ++ codes "}"

abbrev pub expression_parts : Op → List Operand → List ℕ
expression_parts op operands = codes "{\"operator\":\"" ++ sign_of op ++ codes "\"" ++ operands_field operands ++ codes "}"

abbrev pub expression_object : Expr → List ℕ
expression_object (Unary op y) = expression_parts op (y ∷ [])
expression_object (Binary x op y) = expression_parts op (x ∷ y ∷ [])
