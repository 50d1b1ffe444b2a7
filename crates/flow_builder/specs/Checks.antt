-- What arrays of numbers have to keep to.
use Rattle.std.specs.Prelude.{◌≡◌, ℕ, ◌+◌, ◌-◌, ◌<◌, ◌≤◌, ◌⊎◌, List, ◌∷◌, length, take, slice_get, slice_index, sum_by, codes}
use Rattle.std.specs.Prelude.{Some, All, Contains, IsSome}
use Rattle.tac_program.specs.Names.{name_at}
use Rattle.tac_program.specs.Sound.{IsLawfulName, IsSoundStatement}
use Rattle.tac_program.specs.declared.program.StmtKind.{StmtKind}
use Rattle.tac_program.specs.Limits.{longest_text, most_procedures}
use Rattle.tac_program.specs.declared.limits.Limits.{Limits}
use Rattle.flow_builder.specs.Built.{kind_at, names_of}
use Rattle.flow_builder.specs.declared.arrays.Arrays.{Arrays}
use Rattle.flow_builder.specs.declared.arrays.BuiltNames.{BuiltNames}
use Rattle.flow_builder.specs.declared.arrays.BuiltProcedure.{BuiltProcedure}
use Rattle.flow_builder.specs.declared.arrays.BuiltStatement.{BuiltStatement}
use Rattle.flow_builder.specs.declared.building.Names.{Names}
use Rattle.flow_builder.specs.declared.building.Names.TheVariants.{Procedures, Variables, Labels}
use Rattle.flow_builder.specs.declared.fault.BuildFault.{BuildFault}
use Rattle.flow_builder.specs.declared.fault.BuildFault.TheVariants as fault
use Rattle.flow_builder.specs.declared.names.NamesFault.{NamesFault}
use Rattle.flow_builder.specs.declared.names.NamesFault.TheVariants as names_fault

-- The numbers are those of a statement, over so many variables, labels and procedures.
abbrev pub IsSoundNumbers : (variables labels procedures : ℕ) → List ℕ → BuiltStatement → Type 0
IsSoundNumbers variables labels procedures callees s =
    (k : StmtKind) × (kind_at callees s ≡ Some k) × IsSoundStatement variables labels procedures k

-- why there are no statements of numbers, which begin at a number among all: one of them has no such numbers
abbrev pub IsStatementsFault : (variables labels procedures : ℕ) → List ℕ → List BuiltStatement → ℕ → BuildFault → Type 0
IsStatementsFault variables labels procedures callees built first (fault.BadStatement n) =
    (i : ℕ) × (s : BuiltStatement) × (slice_get built i ≡ Some s) × (n ≡ first + i) × (¬ (IsSoundNumbers variables labels procedures callees s))
IsStatementsFault variables labels procedures callees built first fault.OutOfMemory = Unit {0}
IsStatementsFault variables labels procedures callees built first _ = ⊥

-- A label of a procedure, whose labels begin at a number, stands behind the procedure's end, or before the label ahead of it.
abbrev pub IsMisplaced : (first end : ℕ) → List ℕ → ℕ → Type 0
IsMisplaced first end places n = (end < slice_index places n) ⊎ ((first < n) × (slice_index places n < slice_index places (n - 1)))

-- why there are no labels within a procedure's end, which begin at a number among all
abbrev pub IsLabelsFault : ℕ → List ℕ → ℕ → BuildFault → Type 0
IsLabelsFault end places first (fault.BadLabel n) = (i : ℕ) × (i < length places) × (n ≡ first + i) × IsMisplaced 0 end places i
IsLabelsFault end places first fault.OutOfMemory = Unit {0}
IsLabelsFault end places first _ = ⊥

-- A name has no bytes: it ends before the one ahead of it, or behind all bytes.
abbrev pub LacksBytes : BuiltNames → ℕ → Type 0
LacksBytes names n =
    (slice_index names.ends.now n < slice_index (0 ∷ names.ends.now) n) ⊎ (length names.bytes.now < slice_index names.ends.now n)

-- A name is bad: it has no bytes, or the language has no such name, or one ahead of it is the same.
pub record IsBadName (names : BuiltNames) (n : ℕ) : Type 0 where
  pub there : n < length names.ends.now
  pub wrong : LacksBytes names n
      ⊎ ((¬ (IsLawfulName (name_at (names_of names) n))) ⊎ Contains (take n (names_of names)) (name_at (names_of names) n))

-- why names make no table
abbrev pub IsNamesFault : BuiltNames → NamesFault → Type 0
IsNamesFault names (names_fault.Bad n) = IsBadName names n
IsNamesFault names names_fault.OutOfMemory = Unit {0}

-- Each statement's numbers are those of some statement.
abbrev pub IsKnown : List ℕ → BuiltStatement → Type 0
IsKnown callees s = IsSome (kind_at callees s)

-- why a procedure is not built, over so many names of labels, of statements and labels that begin at numbers among all
abbrev pub IsProcedureFault : (variables procedures label_names : ℕ) → List ℕ → List BuiltStatement → List ℕ → ℕ → ℕ → BuildFault → Type 0
IsProcedureFault variables procedures label_names callees built places first_statement first_label (fault.BadStatement n) =
    IsStatementsFault variables (length places) procedures callees built first_statement (fault.BadStatement n)
IsProcedureFault variables procedures label_names callees built places first_statement first_label (fault.BadLabel n) =
    IsLabelsFault (length built) places first_label (fault.BadLabel n)
IsProcedureFault variables procedures label_names callees built places first_statement first_label fault.BadCounts = label_names < length places
IsProcedureFault variables procedures label_names callees built places first_statement first_label fault.OutOfMemory = Unit {0}
IsProcedureFault variables procedures label_names callees built places first_statement first_label _ = ⊥

-- There are no more procedures than the limits allow, and no more statements, labels and variables than a text within them has bytes.
pub record AreFew (limits : Limits) (arrays : Arrays) : Type 0 where
  pub procedures : length arrays.procedures.now ≤ most_procedures limits
  pub statements : length arrays.statements.now ≤ longest_text limits
  pub labels : length arrays.labels.now ≤ longest_text limits
  pub variables : length arrays.variable_names.ends.now ≤ longest_text limits
  pub label_names : length arrays.label_names.ends.now ≤ longest_text limits

-- Each procedure has a name, all statements and labels are some procedure's, and there is a name for each label of a procedure.
pub record Fit (arrays : Arrays) : Type 0 where
  pub names : length arrays.procedure_names.ends.now ≡ length arrays.procedures.now
  pub statements : sum_by (λ p. p.statements) arrays.procedures.now ≡ length arrays.statements.now
  pub labels : sum_by (λ p. p.labels) arrays.procedures.now ≡ length arrays.labels.now
  pub label_names : All (λ p. p.labels ≤ length arrays.label_names.ends.now) arrays.procedures.now

-- how many statements, and labels, the procedures before one have
abbrev pub first_statement : Arrays → ℕ → ℕ
first_statement arrays p = sum_by (λ q. q.statements) (take p arrays.procedures.now)

abbrev pub first_label : Arrays → ℕ → ℕ
first_label arrays p = sum_by (λ q. q.labels) (take p arrays.procedures.now)

-- A statement of a procedure has numbers of none there, over so many variables and procedures.
pub record IsBadStatement (variables procedures : ℕ) (arrays : Arrays) (n : ℕ) : Type 0 where
  pub number : ℕ
  pub procedure : BuiltProcedure
  pub procedure_is : slice_get arrays.procedures.now number ≡ Some procedure
  pub from : first_statement arrays number ≤ n
  pub until : n < first_statement arrays number + procedure.statements
  pub statement : BuiltStatement
  pub statement_is : slice_get arrays.statements.now n ≡ Some statement
  pub unsound : ¬ (IsSoundNumbers variables procedure.labels procedures arrays.callees.now statement)

-- A label of a procedure does not stand within it, or not in order.
pub record IsBadLabel (arrays : Arrays) (n : ℕ) : Type 0 where
  pub number : ℕ
  pub procedure : BuiltProcedure
  pub procedure_is : slice_get arrays.procedures.now number ≡ Some procedure
  pub from : first_label arrays number ≤ n
  pub until : n < first_label arrays number + procedure.labels
  pub there : n < length arrays.labels.now
  pub misplaced : IsMisplaced (first_label arrays number) procedure.statements arrays.labels.now n

-- The names of one kind.
abbrev pub names_chosen : Names → Arrays → BuiltNames
names_chosen Procedures arrays = arrays.procedure_names
names_chosen Variables arrays = arrays.variable_names
names_chosen Labels arrays = arrays.label_names

-- a name of one kind that is none
abbrev pub bad_name_of : Names → ℕ → BuildFault
bad_name_of Procedures n = fault.BadProcedureName n
bad_name_of Variables n = fault.BadVariableName n
bad_name_of Labels n = fault.BadLabelName n

-- why the names of one kind make no table
abbrev pub IsTableFault : Arrays → BuildFault → Type 0
IsTableFault arrays (fault.BadProcedureName n) = IsBadName arrays.procedure_names n
IsTableFault arrays (fault.BadVariableName n) = IsBadName arrays.variable_names n
IsTableFault arrays (fault.BadLabelName n) = IsBadName arrays.label_names n
IsTableFault arrays fault.OutOfMemory = Unit {0}
IsTableFault arrays _ = ⊥

-- why the procedures are not built, over so many variables and procedures
abbrev pub IsProceduresFault : (variables procedures : ℕ) → Arrays → BuildFault → Type 0
IsProceduresFault variables procedures arrays (fault.BadStatement n) = IsBadStatement variables procedures arrays n
IsProceduresFault variables procedures arrays (fault.BadLabel n) = IsBadLabel arrays n
IsProceduresFault variables procedures arrays fault.BadCounts = ¬ (Fit arrays)
IsProceduresFault variables procedures arrays fault.OutOfMemory = Unit {0}
IsProceduresFault variables procedures arrays _ = ⊥

-- why arrays make no program within limits; want of memory is no fact of them
abbrev pub IsBuildFault : Limits → Arrays → BuildFault → Type 0
IsBuildFault limits arrays (fault.BadStatement n) =
    IsBadStatement (length arrays.variable_names.ends.now) (length arrays.procedures.now) arrays n
IsBuildFault limits arrays (fault.BadLabel n) = IsBadLabel arrays n
IsBuildFault limits arrays (fault.BadProcedureName n) = IsBadName arrays.procedure_names n
IsBuildFault limits arrays (fault.BadVariableName n) = IsBadName arrays.variable_names n
IsBuildFault limits arrays (fault.BadLabelName n) = IsBadName arrays.label_names n
IsBuildFault limits arrays fault.BadCounts = ¬ (Fit arrays)
IsBuildFault limits arrays fault.NoMain = ¬ (Contains (names_of arrays.procedure_names) (codes "main"))
IsBuildFault limits arrays fault.TooManyProcedures = most_procedures limits < length arrays.procedures.now
IsBuildFault limits arrays fault.TooLong = ¬ (AreFew limits arrays)
IsBuildFault limits arrays fault.OutOfMemory = Unit {0}
