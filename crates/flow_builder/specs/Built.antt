-- The program that arrays of numbers stand for.
use Rattle.std.specs.Prelude.{ℕ, suc, ◌+◌, ◌==◌, ◌&&◌, nat_le, if◌then◌else◌, List, [], ◌∷◌, map, take, drop, length, slice_range}
use Rattle.std.specs.Prelude.{Option, Some, None, option_map, option_and_then, unwrap_or}
use Rattle.tac_program.specs.Programs.{Procedure, Program}
use Rattle.tac_program.specs.declared.program.Label.{Label}
use Rattle.tac_program.specs.declared.program.Op.{Op}
use Rattle.tac_program.specs.declared.program.Op.TheVariants as op
use Rattle.tac_program.specs.declared.program.Operand.{Operand}
use Rattle.tac_program.specs.declared.program.Operand.TheVariants.{Variable, Number}
use Rattle.tac_program.specs.declared.program.Stmt.{Stmt}
use Rattle.tac_program.specs.declared.program.StmtKind.{StmtKind}
use Rattle.tac_program.specs.declared.program.StmtKind.TheVariants as kind
use Rattle.flow_builder.specs.declared.arrays.Arrays.{Arrays}
use Rattle.flow_builder.specs.declared.arrays.BuiltNames.{BuiltNames}
use Rattle.flow_builder.specs.declared.arrays.BuiltOperand.{BuiltOperand}
use Rattle.flow_builder.specs.declared.arrays.BuiltProcedure.{BuiltProcedure}
use Rattle.flow_builder.specs.declared.arrays.BuiltStatement.{BuiltStatement}

-- the operator of a number
abbrev pub operator_at : ℕ → Option Op
operator_at number =
    if number == 0 then Some op.Plus
    else if number == 1 then Some op.Minus
    else if number == 2 then Some op.Star
    else if number == 3 then Some op.Slash
    else if number == 4 then Some op.Percent
    else if number == 5 then Some op.And
    else if number == 6 then Some op.Or
    else if number == 7 then Some op.Caret
    else if number == 8 then Some op.ShiftLeft
    else if number == 9 then Some op.ShiftRight
    else if number == 10 then Some op.Less
    else if number == 11 then Some op.LessEqual
    else if number == 12 then Some op.Greater
    else if number == 13 then Some op.GreaterEqual
    else if number == 14 then Some op.Equal
    else if number == 15 then Some op.NotEqual
    else if number == 16 then Some op.Tilde
    else if number == 17 then Some op.Bang
    else None

-- the operand of numbers
abbrev pub operand_at : BuiltOperand → Option Operand
operand_at o = if o.kind == 1 then Some (Variable o.variable) else if o.kind == 2 then Some (Number o.number) else None

-- a statement of each form
abbrev pub copy_at : BuiltStatement → Option StmtKind
copy_at s = option_map (λ y. kind.Copy s.target y) (operand_at s.right)

abbrev pub unary_at : BuiltStatement → Option StmtKind
unary_at s = option_and_then (λ o. option_map (λ y. kind.Unary s.target o y) (operand_at s.right)) (operator_at s.operator)

abbrev pub binary_at : BuiltStatement → Option StmtKind
binary_at s =
    option_and_then (λ o. option_and_then (λ y. option_map (λ z. kind.Binary o s.target y z) (operand_at s.right)) (operand_at s.left))
    (operator_at s.operator)

abbrev pub if_at : BuiltStatement → Option StmtKind
if_at s = option_map (λ y. kind.If y s.label) (operand_at s.right)

abbrev pub if_false_at : BuiltStatement → Option StmtKind
if_false_at s = option_map (λ y. kind.IfFalse y s.label) (operand_at s.right)

abbrev pub comparison_at : BuiltStatement → Option StmtKind
comparison_at s =
    option_and_then (λ o. option_and_then (λ y. option_map (λ z. kind.IfCompare o s.label y z) (operand_at s.right)) (operand_at s.left))
    (operator_at s.operator)

abbrev pub call_at : List ℕ → BuiltStatement → Option StmtKind
call_at callees s =
    if nat_le s.callees 8 && nat_le (s.first_callee + s.callees) (length callees)
    then Some (kind.Call (take s.callees (drop s.first_callee callees)))
    else None

abbrev pub print_at : BuiltStatement → Option StmtKind
print_at s = option_map (λ y. kind.Print y) (operand_at s.right)

-- the statement of numbers, over all callees
abbrev pub kind_at : List ℕ → BuiltStatement → Option StmtKind
kind_at callees s =
    if s.kind == 1 then copy_at s
    else if s.kind == 2 then unary_at s
    else if s.kind == 3 then binary_at s
    else if s.kind == 4 then Some (kind.Goto s.label)
    else if s.kind == 5 then if_at s
    else if s.kind == 6 then if_false_at s
    else if s.kind == 7 then comparison_at s
    else if s.kind == 8 then call_at callees s
    else if s.kind == 9 then Some kind.Return
    else if s.kind == 10 then Some (kind.Read s.target)
    else if s.kind == 11 then print_at s
    else if s.kind == 12 then Some kind.Skip
    else None

-- where there is none, one that does nothing stands for it
abbrev pub statement_of : List ℕ → BuiltStatement → Stmt
statement_of callees s = record { kind = unwrap_or (kind_at callees s) kind.Skip; span = record { line = s.line; start = 0; end = 0 } }

-- labels by their places, from a number on
abbrev pub labels_from : ℕ → List ℕ → List Label
labels_from n [] = []
labels_from n (place ∷ places) = record { name = n; place = place } ∷ labels_from (suc n) places

-- names that begin at a byte, by their ends
abbrev pub names_from : ℕ → List ℕ → List ℕ → List (List ℕ)
names_from start [] bytes = []
names_from start (end ∷ ends) bytes = slice_range bytes start end ∷ names_from end ends bytes

abbrev pub names_of : BuiltNames → List (List ℕ)
names_of names = names_from 0 names.ends.now names.bytes.now

-- a procedure, over all callees and the names of labels
abbrev pub procedure_of : List (List ℕ) → List ℕ → ℕ → List BuiltStatement → List ℕ → Procedure
procedure_of label_names callees n statements places = record {
  name = n;
  labels = labels_from 0 places;
  label_names = take (length places) label_names;
  statements = map (statement_of callees) statements;
}

-- the procedures from a number on, of the statements and labels that are left
abbrev pub procedures_from : List (List ℕ) → List ℕ → ℕ → List BuiltProcedure → List BuiltStatement → List ℕ → List Procedure
procedures_from label_names callees n [] statements places = []
procedures_from label_names callees n (p ∷ ps) statements places =
    procedure_of label_names callees n (take p.statements statements) (take p.labels places)
    ∷ procedures_from label_names callees (suc n) ps (drop p.statements statements) (drop p.labels places)

-- the program of arrays
abbrev pub program_of : Arrays → Program
program_of arrays = record {
  procedures = procedures_from (names_of arrays.label_names) arrays.callees.now 0 arrays.procedures.now arrays.statements.now arrays.labels.now;
  procedure_names = names_of arrays.procedure_names;
  variable_names = names_of arrays.variable_names;
}
