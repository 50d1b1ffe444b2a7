-- What holds of every program that is read: each number in it leads to what is there.
use Rattle.std.specs.Prelude.{◌≡◌, ◌≢◌, ℕ, ◌<◌, ◌≤◌, true, false, List, length, All, AllPairs, Contains, slice_get, sum_by, codes}
use Rattle.std.specs.Option.{ForSome}
use Rattle.tac_program.specs.Spelling.{is_name, keywords, unary_signs, binary_signs, comparison_signs, sign_of}
use Rattle.tac_program.specs.Names.{is_one_of}
use Rattle.tac_program.specs.Programs.{Procedure, Program, LabelsRise}
use Rattle.tac_program.specs.Limits.{largest_number, longest_name, longest_text, most_procedures}
use Rattle.tac_program.specs.declared.limits.Limits.TheVariants.{Large}
use Rattle.tac_program.specs.declared.program.Op.{Op}
use Rattle.tac_program.specs.declared.program.Operand.{Operand}
use Rattle.tac_program.specs.declared.program.Operand.TheVariants.{Variable, Number}
use Rattle.tac_program.specs.declared.program.StmtKind.{StmtKind}
use Rattle.tac_program.specs.declared.program.StmtKind.TheVariants as kind

-- No element stands twice.
abbrev pub AllDiffer : {A : Type 0} → List A → Type 0
AllDiffer items = AllPairs (λ a b. a ≢ b) items

-- The number of each element is its place.
abbrev pub NumberedByPlace : {A : Type 0} → (A → ℕ) → List A → Type 0
NumberedByPlace number items = (n : ℕ) → ForSome (slice_get items n) (λ a. number a ≡ n)

pub record IsLawfulName (s : List ℕ) : Type 0 where
  -- it has the form of a name
  pub spelled : is_name s ≡ true
  -- it is no keyword
  pub not_reserved : is_one_of s keywords ≡ false
  -- it is within the limit
  pub short : length s ≤ longest_name

-- A variable that is there, or a number that is not too large.
abbrev pub IsSoundOperand : ℕ → Operand → Type 0
IsSoundOperand variables (Variable v) = v < variables
IsSoundOperand variables (Number n) = n ≤ largest_number

-- An operator that may stand in such a place.
abbrev pub IsUnary : Op → Type 0
IsUnary o = is_one_of (sign_of o) unary_signs ≡ true

abbrev pub IsBinary : Op → Type 0
IsBinary o = is_one_of (sign_of o) binary_signs ≡ true

abbrev pub IsComparison : Op → Type 0
IsComparison o = is_one_of (sign_of o) comparison_signs ≡ true

pub record IsSoundUnary (variables x : ℕ) (o : Op) (y : Operand) : Type 0 where
  -- the target is there
  pub target : x < variables
  -- the operator is a unary one
  pub op : IsUnary o
  -- its operand is sound
  pub operand : IsSoundOperand variables y

pub record IsSoundBinary (variables x : ℕ) (y : Operand) (o : Op) (z : Operand) : Type 0 where
  -- the target is there
  pub target : x < variables
  -- the left operand is sound
  pub left : IsSoundOperand variables y
  -- the operator is a binary one
  pub op : IsBinary o
  -- the right operand is sound
  pub right : IsSoundOperand variables z

pub record IsSoundComparison (variables labels : ℕ) (y : Operand) (o : Op) (z : Operand) (l : ℕ) : Type 0 where
  -- the left operand is sound
  pub left : IsSoundOperand variables y
  -- the operator is a comparison
  pub op : IsComparison o
  -- the right operand is sound
  pub right : IsSoundOperand variables z
  -- the label is there
  pub label : l < labels

pub record IsSoundCall (procedures : ℕ) (callees : List ℕ) : Type 0 where
  -- at least one procedure is called
  pub some : 0 < length callees
  -- and at most eight
  pub few : length callees ≤ 8
  -- each is there
  pub there : All (λ p. p < procedures) callees
  -- none is listed twice
  pub differ : AllDiffer callees

-- A statement of a program with so many variables and procedures, in a procedure with so many labels.
abbrev pub IsSoundStatement : (variables labels procedures : ℕ) → StmtKind → Type 0
IsSoundStatement variables labels procedures (kind.Copy x y) = (x < variables) × IsSoundOperand variables y
IsSoundStatement variables labels procedures (kind.Unary x o y) = IsSoundUnary variables x o y
IsSoundStatement variables labels procedures (kind.Binary o x y z) = IsSoundBinary variables x y o z
IsSoundStatement variables labels procedures (kind.Goto l) = l < labels
IsSoundStatement variables labels procedures (kind.If y l) = IsSoundOperand variables y × (l < labels)
IsSoundStatement variables labels procedures (kind.IfFalse y l) = IsSoundOperand variables y × (l < labels)
IsSoundStatement variables labels procedures (kind.IfCompare o l y z) = IsSoundComparison variables labels y o z l
IsSoundStatement variables labels procedures (kind.Call ps) = IsSoundCall procedures ps
IsSoundStatement variables labels procedures kind.Return = Unit {0}
IsSoundStatement variables labels procedures (kind.Read x) = x < variables
IsSoundStatement variables labels procedures (kind.Print y) = IsSoundOperand variables y
IsSoundStatement variables labels procedures kind.Skip = Unit {0}

-- A procedure of a program with so many variables and procedures.
pub record IsSoundProcedure (variables procedures : ℕ) (p : Procedure) : Type 0 where
  -- label n of the list has the number n
  pub numbered : NumberedByPlace (λ l. l.name) p.labels
  -- each label has a name
  pub named : length p.label_names ≡ length p.labels
  -- each label stands for a statement or for the end
  pub placed : All (λ l. l.place ≤ length p.statements) p.labels
  -- and none for one before that of an earlier label
  pub rise : LabelsRise p.labels
  -- each name is one of the language
  pub lawful : All IsLawfulName p.label_names
  -- no two labels have one name
  pub differ : AllDiffer p.label_names
  -- each statement keeps to what is there
  pub statements : All (λ s. IsSoundStatement variables (length p.labels) procedures s.kind) p.statements

pub record IsSound (p : Program) : Type 0 where
  -- procedure n of the list has the number n
  pub numbered : NumberedByPlace (λ q. q.name) p.procedures
  -- each procedure has a name
  pub named : length p.procedure_names ≡ length p.procedures
  -- there are no more procedures than a large program may have
  pub few : length p.procedures ≤ most_procedures Large
  -- one of them is called `main`
  pub main : Contains p.procedure_names (codes "main")
  -- each name of a procedure is one of the language
  pub procedures_lawful : All IsLawfulName p.procedure_names
  -- no two procedures have one name
  pub procedures_differ : AllDiffer p.procedure_names
  -- each name of a variable is one of the language
  pub variables_lawful : All IsLawfulName p.variable_names
  -- no two variables have one name
  pub variables_differ : AllDiffer p.variable_names
  -- the statements, the labels and the variables are no more than the bytes of a large text
  pub statements_few : sum_by (λ q. length q.statements) p.procedures ≤ longest_text Large
  pub labels_few : sum_by (λ q. length q.labels) p.procedures ≤ longest_text Large
  pub variables_few : length p.variable_names ≤ longest_text Large
  -- each procedure keeps to what is there
  pub procedures : All (IsSoundProcedure (length p.variable_names) (length p.procedures)) p.procedures
