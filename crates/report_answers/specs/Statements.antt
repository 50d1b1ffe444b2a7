-- What a statement is to a report.
use Rattle.std.specs.Prelude.{ℕ, Bool, true, false, Option, Some, None}
use Rattle.tac_program.specs.declared.program.StmtKind.{StmtKind}
use Rattle.tac_program.specs.declared.program.StmtKind.TheVariants as kind

-- whether the statement is a test, a negated test or a comparison
abbrev pub is_test : StmtKind → Bool
is_test (kind.Copy x y) = false
is_test (kind.Unary x op y) = false
is_test (kind.Binary op x y z) = false
is_test (kind.Goto label) = false
is_test (kind.If y label) = true
is_test (kind.IfFalse y label) = true
is_test (kind.IfCompare op label y z) = true
is_test (kind.Call callees) = false
is_test kind.Return = false
is_test (kind.Read x) = false
is_test (kind.Print y) = false
is_test kind.Skip = false

-- the variable that an assignment sets; one that is read from outside is none
abbrev pub assigned : StmtKind → Option ℕ
assigned (kind.Copy x y) = Some x
assigned (kind.Unary x op y) = Some x
assigned (kind.Binary op x y z) = Some x
assigned (kind.Goto label) = None
assigned (kind.If y label) = None
assigned (kind.IfFalse y label) = None
assigned (kind.IfCompare op label y z) = None
assigned (kind.Call callees) = None
assigned kind.Return = None
assigned (kind.Read x) = None
assigned (kind.Print y) = None
assigned kind.Skip = None
