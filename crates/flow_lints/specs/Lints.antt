-- What a linter tells of a program: the report's remarks, and dead assignments by doubt on executions.
use Rattle.std.specs.Prelude.{◌≡◌, ◌↔◌, ℕ, suc, ◌-◌, ◌<◌, Bool, true, false, not, ◌&&◌, List, [], ◌∷◌, ◌++◌, map, flat_map, length, Contains}
use Rattle.std.specs.Prelude.{Option, Some, None, if◌then◌else◌, nat_eq}
use Rattle.std.specs.List.{filter}
use Rattle.flow_graph.specs.Analyses.{shape_of}
use Rattle.flow_graph.specs.Points.{entry_point, kind_at, place_of, point_count, points, procedure_at}
use Rattle.flow_graph.specs.Runs.{accesses_of}
use Rattle.execution_laws.specs.Executions.{IsDoubtfulOnExecutions, IsReadBehind}
use Rattle.flow_lints.specs.declared.lint.Lint.{Lint}
use Rattle.flow_lints.specs.declared.lint.Lint.TheVariants.{NeverCalled, Told}
use Rattle.flow_lints.specs.declared.lint.PlacedLint.{PlacedLint}
use Rattle.flow_lints.specs.declared.lint.Linted.{Linted}
use Rattle.flow_reports.specs.Reports.{IsKnowledge, IsListedDead, Knowledge, assigned_at, dead_at, remarks_at}
use Rattle.flow_reports.specs.declared.remark.Remark.{Remark}
use Rattle.flow_reports.specs.declared.remark.Remark.TheVariants.{NeverReached, Unset, Computed, VeryBusy, Dead}
use Rattle.tac_program.specs.Programs.{Program}

-- what is known of a program: what its report is made of, and which points are doubtful on executions
pub record LintKnowledge : Type 0 where
  pub report : Knowledge
  pub on_executions : ℕ → Bool

pub record IsLintKnowledge (program : Program) (known : LintKnowledge) : Type 0 where
  pub report : IsKnowledge program known.report
  pub on_executions : (point : ℕ) → point < point_count program
      → (known.on_executions point ≡ true) ↔ IsDoubtfulOnExecutions (shape_of program) point

-- whether some valid path leads to the point
abbrev pub is_reached : LintKnowledge → ℕ → Bool
is_reached known point = known.report.reach.has_path point

-- whether some valid path enters the procedure of the point
abbrev pub is_entered : Program → LintKnowledge → ℕ → Bool
is_entered program known point = is_reached known (entry_point program (procedure_at program point))

-- the procedure that begins at the point, where no valid path enters it
abbrev pub uncalled_at : Program → LintKnowledge → ℕ → List ℕ
uncalled_at program known point =
    if nat_eq (place_of program point).place 0 && not (is_reached known point) then procedure_at program point ∷ [] else []

-- Whether a statement stands at the point that is the first of some that are never reached: its procedure is entered, so it is not the first
-- statement there, and the point before it is reached.
abbrev pub begins_unreached : Program → LintKnowledge → ℕ → Bool
begins_unreached program known point = elim (kind_at program point) [
  | Some statement ↦ (is_entered program known point && not (is_reached known point)) && is_reached known (point - 1)
  | None ↦ false
]

abbrev pub unreached_at : Program → LintKnowledge → ℕ → List Remark
unreached_at program known point = if begins_unreached program known point then NeverReached ∷ [] else []

-- the remarks that are told as the report makes them
abbrev pub is_kept : Remark → Bool
is_kept NeverReached = false
is_kept (Unset variable) = true
is_kept (Computed bit) = true
is_kept (VeryBusy bit) = true
is_kept (Dead variable) = false

abbrev pub kept_at : Program → LintKnowledge → ℕ → List Remark
kept_at program known point = filter is_kept (remarks_at program known.report point)

-- what is known where doubt is doubt on executions
abbrev pub by_executions : LintKnowledge → Knowledge
by_executions known = record known.report { doubtful = known.on_executions }

-- the assigned variable, where the statement is reached, the point after it not doubtful on executions, and the variable not live there
abbrev pub dead_variables_at : Program → LintKnowledge → ℕ → List ℕ
dead_variables_at program known point = if is_reached known point then dead_at program (by_executions known) point else []

-- all that is told at a point
abbrev pub lints_at : Program → LintKnowledge → ℕ → List Lint
lints_at program known point =
    map (λ procedure. NeverCalled procedure) (uncalled_at program known point)
    ++ map (λ remark. Told remark)
    (unreached_at program known point ++ kept_at program known point ++ map (λ variable. Dead variable) (dead_variables_at program known point))

abbrev pub lints_placed_at : ℕ → List Lint → List PlacedLint
lints_placed_at point lints = map (λ lint. record { point = point; lint = lint }) lints

-- all lints, point by point
abbrev pub lints_of : Program → LintKnowledge → List PlacedLint
lints_of program known = flat_map (λ point. lints_placed_at point (lints_at program known point)) (points program)

-- Whether an assignment that is reached is left out for doubt on executions alone: the variable is not live behind it.
abbrev pub is_left_out : Program → LintKnowledge → ℕ → Bool
is_left_out program known point = is_reached known point && elim (assigned_at program point) [
  | Some variable ↦ known.on_executions (suc point) && not (known.report.live.contains (suc point) variable)
  | None ↦ false
]

-- how many are
abbrev pub left_out_of : Program → LintKnowledge → ℕ
left_out_of program known = length (filter (is_left_out program known) (points program))

-- whether a point is reached and no valid path leads from it to the end of `main`
abbrev pub is_endless : LintKnowledge → ℕ → Bool
is_endless known point = is_reached known point && not (known.report.live.has_path point)

-- It is the first number below a bound that passes the test, or none where none passes.
abbrev pub IsFirstOf : (ℕ → Bool) → ℕ → Option ℕ → Type 0
IsFirstOf test bound None = (number : ℕ) → number < bound → test number ≡ false
IsFirstOf test bound (Some first) = (first < bound) × (test first ≡ true) × ((number : ℕ) → number < first → test number ≡ false)

-- It is told that the assignment to the variable at the point is dead.
abbrev pub IsToldDead : Program → LintKnowledge → ℕ → ℕ → Type 0
IsToldDead program known point variable = (point < point_count program) × Contains (lints_at program known point) (Told (Dead variable))

-- No execution, finished or not, reads the variable behind the assignment before it writes it.
abbrev pub IsNeverRead : Program → ℕ → ℕ → Type 0
IsNeverRead program point variable = ¬ (IsReadBehind (shape_of program) (accesses_of program variable) (suc point))

-- The lints are made of the meets over all valid paths, and so are how many dead assignments are left out for doubt on executions, and the
-- first point, if there is one, that is reached and cannot finish. What they call dead no execution reads, and all that the report calls dead
-- is among them.
pub record IsLinted (program : Program) (linted : Linted) : Type 0 where
  pub known : LintKnowledge
  pub is_known : IsLintKnowledge program known
  pub lints : linted.lints.items ≡ lints_of program known
  pub left_out : linted.left_out ≡ left_out_of program known
  pub endless : IsFirstOf (is_endless known) (point_count program) linted.endless
  pub safe : (point variable : ℕ) → IsToldDead program known point variable → IsNeverRead program point variable
  pub reported : (point variable : ℕ) → IsListedDead program known.report point variable → IsToldDead program known point variable
