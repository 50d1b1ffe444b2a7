-- The report on a program: what the four analyses say of each statement.
use Rattle.std.specs.Prelude.{◌≡◌, ◌↔◌, ℕ, suc, ◌<◌, Bool, true, false, not, ◌&&◌, List, [], ◌∷◌, ◌++◌, map, flat_map, filter, length, Contains}
use Rattle.std.specs.Prelude.{Option, Some, None, option_and_then, option_map, unwrap_or, if◌then◌else◌, codes, decimal}
use Rattle.std.specs.List.{range_with_len}
use Rattle.flow_graph.specs.Analyses.{shape_of}
use Rattle.flow_graph.specs.Runs.{accesses_of, IsDoubtful, ReadsBeforeWriting}
use Rattle.flow_graph.specs.Points.{points, point_count, kind_at}
use Rattle.flow_graph.specs.Transfers.{reads}
use Rattle.flow_graph.specs.Universes.{definitions, expressions, evaluated_at}
use Rattle.flow_graph.specs.declared.analysis.Analysis.TheVariants.{Reach, Live, Avail, Busy}
use Rattle.tac_program.specs.Programs.{Program}
use Rattle.flow_team.specs.Tables.{Facts, AreFacts}
use Rattle.flow_texts.specs.Tables.{bit_text, bits_at, line_at, variable_text}
use Rattle.report_answers.specs.Statements.{assigned, is_test}
use Rattle.flow_reports.specs.declared.remark.Remark.{Remark}
use Rattle.flow_reports.specs.declared.remark.Remark.TheVariants.{NeverReached, Unset, Computed, VeryBusy, Dead}

-- what is known of a program: the facts of the four analyses, and which points are doubtful
pub record Knowledge : Type 0 where
  pub reach : Facts
  pub live : Facts
  pub avail : Facts
  pub busy : Facts
  pub doubtful : ℕ → Bool

pub record IsKnowledge (program : Program) (known : Knowledge) : Type 0 where
  pub reach : AreFacts program Reach known.reach
  pub live : AreFacts program Live known.live
  pub avail : AreFacts program Avail known.avail
  pub busy : AreFacts program Busy known.busy
  pub doubtful : (point : ℕ) → point < point_count program → (known.doubtful point ≡ true) ↔ IsDoubtful (shape_of program) point

-- `points P, variables V, definitions D, expressions E`
abbrev pub count_line : Program → List ℕ
count_line program =
    codes "points " ++ decimal (point_count program) ++ codes ", variables " ++ decimal (length program.variable_names)
    ++ codes ", definitions " ++ decimal (length (definitions program))
    ++ codes ", expressions " ++ decimal (length (expressions program)) ++ codes "\n"

-- The variables that the statement at a point reads and that may not be set there: the dummy definition of a variable, which
-- has the variable's number, reaches the point.
abbrev pub unset_at : Program → Knowledge → ℕ → List ℕ
unset_at program known point =
    filter (λ variable. reads program point variable && known.reach.contains point variable) (range_with_len 0 (length program.variable_names))

-- the expression that the statement evaluates, where it is available
abbrev pub computed_at : Program → Knowledge → ℕ → List ℕ
computed_at program known point =
    elim (evaluated_at program point) [ Some bit ↦ if known.avail.contains point bit then bit ∷ [] else [] | None ↦ [] ]

-- the expressions that are very busy at a test that is not doubtful
abbrev pub busy_at : Program → Knowledge → ℕ → List ℕ
busy_at program known point =
    if unwrap_or (option_map is_test (kind_at program point)) false && not (known.doubtful point)
    then bits_at program Busy known.busy point else []

-- the variable that the statement at a point assigns
abbrev pub assigned_at : Program → ℕ → Option ℕ
assigned_at program point = option_and_then assigned (kind_at program point)

-- the assigned variable, where the point after the assignment is not doubtful and the variable is not live there
abbrev pub dead_at : Program → Knowledge → ℕ → List ℕ
dead_at program known point =
    elim (assigned_at program point) [
      | Some variable ↦ if not (known.doubtful (suc point)) && not (known.live.contains (suc point) variable) then variable ∷ [] else []
      | None ↦ []
    ]

-- all that is said of the statement at a point that is reached
abbrev pub remarks_when_reached : Program → Knowledge → ℕ → List Remark
remarks_when_reached program known point =
    map (λ variable. Unset variable) (unset_at program known point)
    ++ map (λ bit. Computed bit) (computed_at program known point)
    ++ map (λ bit. VeryBusy bit) (busy_at program known point)
    ++ map (λ variable. Dead variable) (dead_at program known point)

-- the remarks of a point: none at a procedure's end, and of a statement that is never reached that alone
abbrev pub remarks_at : Program → Knowledge → ℕ → List Remark
remarks_at program known point =
    elim (kind_at program point) [
      | Some statement ↦ if known.reach.has_path point then remarks_when_reached program known point else NeverReached ∷ []
      | None ↦ []
    ]

-- what a remark says
abbrev pub remark_text : Program → Remark → List ℕ
remark_text program NeverReached = codes "never reached"
remark_text program (Unset variable) = variable_text program variable ++ codes " may be used before it is set"
remark_text program (Computed bit) = bit_text program Avail bit ++ codes " is already computed"
remark_text program (VeryBusy bit) = bit_text program Busy bit ++ codes " is very busy"
remark_text program (Dead variable) = codes "assignment to " ++ variable_text program variable ++ codes " is dead"

-- `LINE: REMARK`, the line being that of the statement at a point
abbrev pub remark_line : Program → ℕ → Remark → List ℕ
remark_line program point remark = decimal (line_at program point) ++ codes ": " ++ remark_text program remark ++ codes "\n"

abbrev pub lines_at : Program → Knowledge → ℕ → List ℕ
lines_at program known point = flat_map (remark_line program point) (remarks_at program known point)

abbrev pub report_of : Program → Knowledge → List ℕ
report_of program known = count_line program ++ flat_map (lines_at program known) (points program)

-- The text is the report over the meets over all valid paths.
pub record IsReport (program : Program) (text : List ℕ) : Type 0 where
  pub known : Knowledge
  pub is_known : IsKnowledge program known
  pub is_text : text ≡ report_of program known

-- The text has a line which says that the assignment to the variable at the point is dead, for whatever reason it is there.
abbrev pub IsListedDead : Program → Knowledge → ℕ → ℕ → Type 0
IsListedDead program known point variable = (point < point_count program) × Contains (remarks_at program known point) (Dead variable)

-- No run from the point after an assignment, finished or not, reads the variable before writing it.
abbrev pub IsSafeToDelete : Program → ℕ → ℕ → Type 0
IsSafeToDelete program point variable = ¬ (ReadsBeforeWriting (shape_of program) (accesses_of program variable) (suc point))

-- The text is the report over the meets over all valid paths, and what its lines call dead is safe to delete.
pub record ListsSafely (program : Program) (text : List ℕ) : Type 0 where
  pub known : Knowledge
  pub is_known : IsKnowledge program known
  pub is_text : text ≡ report_of program known
  pub safe : (point variable : ℕ) → IsListedDead program known point variable → IsSafeToDelete program point variable
