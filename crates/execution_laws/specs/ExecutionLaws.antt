-- What is proved of doubt on executions, of any problem and of every program.
use Rattle.std.specs.Prelude.{◌≡◌, ℕ, List, [], ◌++◌, Some}
use Rattle.tac_program.specs.Programs.{Program}
use Rattle.tac_program.specs.Sound.{IsSound}
use Rattle.flow_graph.specs.Analyses.{shape_of, IsInTable}
use Rattle.flow_graph.specs.Paths.{Shape, Transfer, root, final, IsPath, IsValidPath, open_sites_after, HasPath, HasBackwardPath}
use Rattle.flow_graph.specs.declared.edge.Edge.{Edge}
use Rattle.flow_graph.specs.Paths.{SomeBackwardPathHas}
use Rattle.flow_graph.specs.Runs.{Accesses, accesses_of, CallsReturn, IsDoubtful, IsLiveness, ReadsBeforeWriting}
use Rattle.flow_graph.specs.declared.analysis.Analysis.TheVariants.{Live}
use Rattle.flow_graph.specs.WellFormed.{IsWellFormed}
use Rattle.execution_laws.specs.Executions.{IsDoubtfulOnExecutions, IsReachedAlong, IsReadBehind}

-- What is doubtful on executions is doubtful. So what is told where there is no doubt is told here too.
abbrev pub DoubtOnExecutionsIsDoubt : Type 0
DoubtOnExecutionsIsDoubt = (shape : Shape) (point : ℕ) → IsDoubtfulOnExecutions shape point → IsDoubtful shape point

-- A point that is not reached is not doubtful on executions, and one that is reached and has no backward valid path is.
abbrev pub DoubtIsAtReachedPoints : Type 0
DoubtIsAtReachedPoints = (shape : Shape) (point : ℕ) → IsDoubtfulOnExecutions shape point → HasPath shape point

abbrev pub ReachedEndlessIsDoubtful : Type 0
ReachedEndlessIsDoubtful =
    (shape : Shape) (point : ℕ) → HasPath shape point → ¬ (HasBackwardPath shape point) → IsDoubtfulOnExecutions shape point

-- The points of an execution are reached.
abbrev pub ExecutionsAreReached : Type 0
ExecutionsAreReached =
    (shape : Shape) (before after : List Edge) (point finish : ℕ)
    → IsValidPath shape (before ++ after) finish → IsPath shape (root shape) before point → IsPath shape point after finish
    → IsReachedAlong shape point after

-- From a point that is not doubtful on executions each point ahead through reached points can finish.
abbrev pub UndoubtedExecutionsFinish : Type 0
UndoubtedExecutionsFinish =
    (shape : Shape) (point : ℕ) → IsWellFormed shape → ¬ (IsDoubtfulOnExecutions shape point)
    → (path : List Edge) (ahead : ℕ) → IsPath shape point path ahead → IsReachedAlong shape point path → HasBackwardPath shape ahead

-- Each execution that comes through such a point can be brought to its end: the rest leads to the end of the root's procedure
-- and returns from each call that is open.
abbrev pub ExecutionsExtend : Type 0
ExecutionsExtend =
    (shape : Shape) (before after : List Edge) (point finish : ℕ) → IsWellFormed shape → CallsReturn shape
    → ¬ (IsDoubtfulOnExecutions shape point)
    → IsValidPath shape (before ++ after) finish → IsPath shape (root shape) before point
    → (rest : List Edge)
    × IsPath shape (root shape) ((before ++ after) ++ rest) (final shape)
    × (open_sites_after ((before ++ after) ++ rest) (Some []) ≡ Some [])

-- Where a point is not doubtful on executions and a variable is not live there, no execution that comes to the point reads
-- the variable behind it before writing it, also where the execution never ends.
abbrev pub DeadOnExecutionsIsSafe : Type 0
DeadOnExecutionsIsSafe =
    (shape : Shape) (transfer : Transfer) (accesses : Accesses) (point : ℕ)
    → IsWellFormed shape → CallsReturn shape → IsLiveness shape transfer accesses
    → ¬ (IsDoubtfulOnExecutions shape point) → ¬ (SomeBackwardPathHas shape transfer point)
    → ¬ (IsReadBehind shape accesses point)

-- What an execution reads behind a point, some run from the point reads: so what no run reads is safe here too.
abbrev pub ReadBehindIsRead : Type 0
ReadBehindIsRead = (shape : Shape) (accesses : Accesses) (point : ℕ) → IsReadBehind shape accesses point → ReadsBeforeWriting shape accesses point

-- the same of every program
abbrev pub DeadVariablesAreSafeOnExecutions : Type 0
DeadVariablesAreSafeOnExecutions =
    (program : Program) (point variable : ℕ) → IsSound program
    → ¬ (IsDoubtfulOnExecutions (shape_of program) point) → ¬ (IsInTable program Live point variable)
    → ¬ (IsReadBehind (shape_of program) (accesses_of program variable) point)
