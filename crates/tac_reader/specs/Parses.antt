-- The program of a text without faults. Words that make no statement are taken for `skip`, and a sign that is no operator for `+`: no such
-- text comes to either of these (Laws.antt: StatementsKeepTheirWords, SignsTellOperators).
use Rattle.std.specs.Prelude.{ℕ, suc, ◌+◌, List, [], ◌∷◌, ◌++◌, map, flat_map, fold, length, take, Some, None, unwrap_or, find, bytes_eq}
use Rattle.tac_lines.specs.Text.{line_after}
use Rattle.tac_lines.specs.Tokens.{Word, name, number, fixed, Token, bytes_of, spelling_of, unless_empty, stop_of}
use Rattle.tac_lines.specs.Forms.{labels_of, behind_labels, statement_row, callees_of}
use Rattle.tac_reader.specs.Sections.{Section, sections, titles, statements_of, labels_in, variables_of}
use Rattle.tac_lines.specs.declared.form.Form.{Form}
use Rattle.tac_lines.specs.declared.form.Form.TheVariants as form
use Rattle.tac_program.specs.declared.program.Op.{Op}
use Rattle.tac_program.specs.declared.program.Op.TheVariants as op
use Rattle.tac_program.specs.declared.program.Operand.{Operand}
use Rattle.tac_program.specs.declared.program.Operand.TheVariants.{Variable, Number}
use Rattle.tac_program.specs.declared.program.Label.{Label}
use Rattle.tac_program.specs.declared.program.StmtKind.{StmtKind}
use Rattle.tac_program.specs.declared.program.StmtKind.TheVariants as kind
use Rattle.tac_program.specs.declared.program.Stmt.{Stmt}
use Rattle.tac_program.specs.Programs.{Procedure, Program, number_of}
use Rattle.tac_program.specs.Names.{Names, noted}
use Rattle.tac_program.specs.Spelling.{operators, sign_of}

abbrev pub each_once : List (List ℕ) → List (List ℕ)
each_once names = fold noted [] names

abbrev pub operator_of : Word → Op
operator_of (fixed s) = unwrap_or (find (λ o. bytes_eq s (sign_of o)) operators) op.Plus
operator_of _ = op.Plus

abbrev pub variable_of : Names → Word → ℕ
variable_of names w = number_of names.variables (bytes_of w)

abbrev pub label_of : Names → Word → ℕ
label_of names w = number_of names.labels (bytes_of w)

abbrev pub operand_of : Names → Word → Operand
operand_of names (name s) = Variable (number_of names.variables s)
operand_of names (number n) = Number n
operand_of names (fixed s) = Number 0

-- The statement of a form that has these words; a call is told by its callees.
abbrev pub kind_of : Names → List ℕ → Form → List Word → StmtKind
kind_of names callees form.Copy (x ∷ _ ∷ y ∷ _) = kind.Copy (variable_of names x) (operand_of names y)
kind_of names callees form.Copy _ = kind.Skip
kind_of names callees form.Unary (x ∷ _ ∷ o ∷ y ∷ _) = kind.Unary (variable_of names x) (operator_of o) (operand_of names y)
kind_of names callees form.Unary _ = kind.Skip
kind_of names callees form.Binary (x ∷ _ ∷ y ∷ o ∷ z ∷ _) =
    kind.Binary (operator_of o) (variable_of names x) (operand_of names y) (operand_of names z)
kind_of names callees form.Binary _ = kind.Skip
kind_of names callees form.Jump (_ ∷ l ∷ _) = kind.Goto (label_of names l)
kind_of names callees form.Jump _ = kind.Skip
kind_of names callees form.Test (_ ∷ y ∷ _ ∷ l ∷ _) = kind.If (operand_of names y) (label_of names l)
kind_of names callees form.Test _ = kind.Skip
kind_of names callees form.NegatedTest (_ ∷ y ∷ _ ∷ l ∷ _) = kind.IfFalse (operand_of names y) (label_of names l)
kind_of names callees form.NegatedTest _ = kind.Skip
kind_of names callees form.Comparison (_ ∷ y ∷ o ∷ z ∷ _ ∷ l ∷ _) =
    kind.IfCompare (operator_of o) (label_of names l) (operand_of names y) (operand_of names z)
kind_of names callees form.Comparison _ = kind.Skip
kind_of names callees form.Call _ = kind.Call callees
kind_of names callees form.Return _ = kind.Return
kind_of names callees form.Read (_ ∷ x ∷ _) = kind.Read (variable_of names x)
kind_of names callees form.Read _ = kind.Skip
kind_of names callees form.Print (_ ∷ y ∷ _) = kind.Print (operand_of names y)
kind_of names callees form.Print _ = kind.Skip
kind_of names callees form.Skip _ = kind.Skip

abbrev pub start_of : List Token → ℕ
start_of [] = 0
start_of (t ∷ ts) = t.start

abbrev pub form_of : List Token → Form
form_of ts = elim (statement_row ts) [ None ↦ form.Skip | Some row ↦ row.0 ]

abbrev pub statement_of : List ℕ → Names → List Token → Stmt
statement_of text names ts = record {
  kind = kind_of names (map (λ t. number_of names.procedures (spelling_of t)) (callees_of ts)) (form_of ts) (map (λ t. t.word) ts);
  span = record { line = line_after (take (start_of ts) text); start = start_of ts; end = stop_of ts };
}

-- The place of each label: how many statements of its procedure stand before it.
abbrev pub label_places : ℕ → List (List Token) → List ℕ
label_places place [] = []
label_places place (line ∷ others) = map (λ t. place) (labels_of line) ++ label_places (place + length (unless_empty (behind_labels line))) others

abbrev pub labels_from : ℕ → List ℕ → List Label
labels_from n [] = []
labels_from n (place ∷ places) = record { name = n; place = place } ∷ labels_from (suc n) places

abbrev pub names_in : List Token → List (List ℕ)
names_in ts = map spelling_of ts

-- the names that a section's statements speak of: its labels are its own
abbrev pub names_for : List (List ℕ) → List (List ℕ) → Section → Names
names_for procedures variables s = record { procedures = procedures; variables = variables; labels = names_in (labels_in s) }

abbrev pub procedure_of : List ℕ → List (List ℕ) → List (List ℕ) → ℕ → Section → Procedure
procedure_of text procedures variables n s =
    let names : Names = names_for procedures variables s in
    record {
      name = n;
      labels = labels_from 0 (label_places 0 s.body);
      label_names = names.labels;
      statements = map (statement_of text names) (statements_of s.body);
    }

abbrev pub procedures_from : List ℕ → List (List ℕ) → List (List ℕ) → ℕ → List Section → List Procedure
procedures_from text procedures variables n [] = []
procedures_from text procedures variables n (s ∷ ss) =
    procedure_of text procedures variables n s ∷ procedures_from text procedures variables (suc n) ss

abbrev pub variables_in : List Section → List (List ℕ)
variables_in ss = each_once (names_in (flat_map (λ s. flat_map variables_of (statements_of s.body)) ss))

abbrev pub program_of : List ℕ → Program
program_of text =
    let ss : List Section = sections text in
    let procedures : List (List ℕ) = names_in (titles ss) in
    let variables : List (List ℕ) = variables_in ss in
    record { procedures = procedures_from text procedures variables 0 ss; procedure_names = procedures; variable_names = variables }
