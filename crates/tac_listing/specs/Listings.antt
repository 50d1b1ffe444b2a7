-- The listing of a program: its text in one fixed layout.
use Rattle.std.specs.Prelude.{ℕ, suc, List, [], ◌∷◌, ◌++◌, flat_map, option_map, slice_get, unwrap_or, ◌==◌, if◌then◌else◌, codes, decimal}
use Rattle.tac_program.specs.Programs.{Procedure, Program}
use Rattle.tac_program.specs.Spelling.{sign_of}
use Rattle.tac_program.specs.Names.{Names, name_at}
use Rattle.tac_program.specs.declared.program.Op.{Op}
use Rattle.tac_program.specs.declared.program.Operand.{Operand}
use Rattle.tac_program.specs.declared.program.Operand.TheVariants.{Variable, Number}
use Rattle.tac_program.specs.declared.program.Label.{Label}
use Rattle.tac_program.specs.declared.program.Stmt.{Stmt}
use Rattle.tac_program.specs.declared.program.StmtKind.{StmtKind}
use Rattle.tac_program.specs.declared.program.StmtKind.TheVariants as kind

abbrev pub operand_text : Names → Operand → List ℕ
operand_text names (Variable v) = name_at names.variables v
operand_text names (Number n) = decimal n

-- One blank on each side of a binary operator; none between a unary one and its operand.
abbrev pub binary_text : Names → Operand → Op → Operand → List ℕ
binary_text names left op right = operand_text names left ++ codes " " ++ sign_of op ++ codes " " ++ operand_text names right

abbrev pub unary_text : Names → Op → Operand → List ℕ
unary_text names op operand = sign_of op ++ operand_text names operand

abbrev pub goto_text : Names → ℕ → List ℕ
goto_text names label = codes "goto " ++ name_at names.labels label

abbrev pub callees_text : Names → List ℕ → List ℕ
callees_text names [] = []
callees_text names (p ∷ []) = name_at names.procedures p
callees_text names (p ∷ q ∷ ps) = name_at names.procedures p ++ codes " | " ++ callees_text names (q ∷ ps)

abbrev pub statement_text : Names → StmtKind → List ℕ
statement_text names (kind.Copy x y) = name_at names.variables x ++ codes " = " ++ operand_text names y
statement_text names (kind.Unary x op y) = name_at names.variables x ++ codes " = " ++ unary_text names op y
statement_text names (kind.Binary op x y z) = name_at names.variables x ++ codes " = " ++ binary_text names y op z
statement_text names (kind.Goto l) = goto_text names l
statement_text names (kind.If y l) = codes "if " ++ operand_text names y ++ codes " " ++ goto_text names l
statement_text names (kind.IfFalse y l) = codes "ifFalse " ++ operand_text names y ++ codes " " ++ goto_text names l
statement_text names (kind.IfCompare op l y z) = codes "if " ++ binary_text names y op z ++ codes " " ++ goto_text names l
statement_text names (kind.Call ps) = codes "call " ++ callees_text names ps
statement_text names kind.Return = codes "return"
statement_text names (kind.Read x) = codes "read " ++ name_at names.variables x
statement_text names (kind.Print y) = codes "print " ++ operand_text names y
statement_text names kind.Skip = codes "skip"

-- The labels of a place, each on a line of its own.
abbrev pub labels_text : Names → ℕ → List Label → List ℕ
labels_text names place labels = flat_map (λ l. if l.place == place then name_at names.labels l.name ++ codes ":\n" else []) labels

abbrev pub places_text : Names → ℕ → List Label → List Stmt → List ℕ
places_text names place labels [] = labels_text names place labels
places_text names place labels (s ∷ ss) =
    labels_text names place labels ++ codes "  " ++ statement_text names s.kind ++ codes "\n" ++ places_text names (suc place) labels ss

abbrev pub procedure_text : List (List ℕ) → List (List ℕ) → Procedure → List ℕ
procedure_text procedures variables p =
    let names : Names = record { procedures = procedures; variables = variables; labels = p.label_names } in
    codes "proc " ++ name_at procedures p.name ++ codes "\n" ++ places_text names 0 p.labels p.statements ++ codes "end\n"

-- the names that stand for the numbers in an expression: no label does
abbrev pub names_of : Program → Names
names_of p = record { procedures = p.procedure_names; variables = p.variable_names; labels = [] }

abbrev pub listing_of : Program → List ℕ
listing_of p = flat_map (procedure_text p.procedure_names p.variable_names) p.procedures

-- the names that a statement of a procedure uses
abbrev pub names_in : Program → ℕ → Names
names_in program procedure = record {
  procedures = program.procedure_names;
  variables = program.variable_names;
  labels = unwrap_or (option_map (λ p. p.label_names) (slice_get program.procedures procedure)) [];
}
