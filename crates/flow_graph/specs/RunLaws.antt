-- What is proved of runs.
use Rattle.std.specs.Prelude.{ℕ, List, ◌++◌}
use Rattle.flow_graph.specs.Paths.{Edge, Shape, Transfer, root, IsPath, IsValidPath, IsBackwardValidPath, SomeBackwardPathHas}
use Rattle.flow_graph.specs.WellFormed.{IsWellFormed}
use Rattle.flow_graph.specs.Runs.{IsDoubtful, CanAlwaysFinish, IsRun, Accesses, ReadsBeforeWriting, CallsReturn, IsLiveness}

-- What follows a point on a valid path is a run from that point, whatever was open there. (With an empty front: a valid
-- path is a run from the root.)
abbrev pub ContinuationsAreRuns : Type 0
ContinuationsAreRuns =
    (shape : Shape) (front back : List Edge) (middle finish : ℕ)
    → IsValidPath shape (front ++ back) finish → IsPath shape (root shape) front middle → IsPath shape middle back finish
    → IsRun shape middle back finish

-- a beginning of a run is a run
abbrev pub FrontsOfRunsAreRuns : Type 0
FrontsOfRunsAreRuns =
    (shape : Shape) (front back : List Edge) (start finish : ℕ) → IsRun shape start (front ++ back) finish
    → (middle : ℕ) × IsRun shape start front middle

-- a point from which each point ahead can finish is not doubtful
abbrev pub WhatFinishesIsNotDoubtful : Type 0
WhatFinishesIsNotDoubtful = (shape : Shape) (point : ℕ) → CanAlwaysFinish shape point → ¬ (IsDoubtful shape point)

-- and the other way round, since it is decided which points have a backward valid path
abbrev pub UndoubtedFinishes : Type 0
UndoubtedFinishes = (shape : Shape) (point : ℕ) → IsWellFormed shape → ¬ (IsDoubtful shape point) → CanAlwaysFinish shape point

-- Where each point ahead can finish, each run can be extended to a backward valid path: each open call is finished by a
-- path inside its callee, the latest first, and then the path leaves through the returns that are still pending.
abbrev pub RunsExtend : Type 0
RunsExtend =
    (shape : Shape) (start finish : ℕ) (run : List Edge) → IsWellFormed shape → CallsReturn shape
    → CanAlwaysFinish shape start → IsRun shape start run finish
    → (rest : List Edge) × IsBackwardValidPath shape (run ++ rest) start

-- So from a point that is not doubtful each run can be extended to a backward valid path.
abbrev pub UndoubtedRunsExtend : Type 0
UndoubtedRunsExtend =
    (shape : Shape) (start finish : ℕ) (run : List Edge) → IsWellFormed shape → CallsReturn shape
    → ¬ (IsDoubtful shape start) → IsRun shape start run finish
    → (rest : List Edge) × IsBackwardValidPath shape (run ++ rest) start

-- Where a point is not doubtful and a variable is not live there, no run from it reads the variable before writing it,
-- also where the execution never ends.
abbrev pub DeadIsSafe : Type 0
DeadIsSafe =
    (shape : Shape) (transfer : Transfer) (accesses : Accesses) (point : ℕ)
    → IsWellFormed shape → CallsReturn shape → IsLiveness shape transfer accesses
    → ¬ (IsDoubtful shape point) → ¬ (SomeBackwardPathHas shape transfer point)
    → ¬ (ReadsBeforeWriting shape accesses point)
