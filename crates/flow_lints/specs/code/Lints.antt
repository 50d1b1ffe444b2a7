-- What was found of a program for its lints, and the lints that are made of it.
use Rattle.std.specs.Prelude.{◌≡◌, ◌↔◌, ℕ, suc, ◌<◌, Bool, true, false, not, ◌&&◌, List, [], ◌∷◌, flat_map, length, get_or, nat_eq, if◌then◌else◌}
use Rattle.std.specs.Prelude.{Option, Some, None}
use Rattle.flow_graph.specs.Analyses.{shape_of}
use Rattle.flow_graph.specs.Points.{point_count}
use Rattle.execution_laws.specs.Executions.{IsDoubtfulOnExecutions}
use Rattle.flow_lints.specs.Lints.{LintKnowledge, is_kept}
use Rattle.flow_lints.specs.declared.lint.Lint.TheVariants.{Told}
use Rattle.flow_lints.specs.declared.lint.PlacedLint.{PlacedLint}
use Rattle.flow_lints.specs.declared.found.LintFindings.{LintFindings}
use Rattle.flow_reports.specs.code.Findings.{AreFindings, knowledge_of}
use Rattle.flow_reports.specs.declared.findings.Findings.{Findings}
use Rattle.flow_reports.specs.declared.listed.PlacedRemark.{PlacedRemark}
use Rattle.tac_program.specs.Programs.{Program}

-- one truth value for each point: whether it is doubtful on executions
pub record TellDoubtOnExecutions (program : Program) (flags : List Bool) : Type 0 where
  pub count : length flags ≡ point_count program
  pub each : (point : ℕ) → point < point_count program
      → (get_or flags point false ≡ true) ↔ IsDoubtfulOnExecutions (shape_of program) point

-- what was found for the report
abbrev pub report_findings : LintFindings → Findings
report_findings found = record found.undoubted { doubtful = found.doubtful }

-- The report's findings are of one program, what is found without doubt has no doubtful point, and there is a flag for each point.
pub record AreLintFindings (found : LintFindings) : Type 0 where
  pub report : AreFindings (report_findings found)
  pub undoubted : AreFindings found.undoubted
  pub none : (point : ℕ) → get_or found.undoubted.doubtful.items point false ≡ false
  pub flags : length found.on_executions.items ≡ point_count found.undoubted.graph.now

-- what they tell, as far as it was asked
abbrev pub lint_knowledge_of : LintFindings → LintKnowledge
lint_knowledge_of found =
    record { report = knowledge_of (report_findings found); on_executions = λ point. get_or found.on_executions.items point false }

-- whether the variable that is assigned before a point is not live there, and the point doubtful on executions
abbrev pub is_unread : LintKnowledge → ℕ → Option ℕ → Bool
is_unread known point (Some variable) = known.on_executions (suc point) && not (known.report.live.contains (suc point) variable)
is_unread known point None = false

-- the remarks at a point that a list of them begins with, and what is behind them
abbrev pub front : ℕ → List PlacedRemark → List PlacedRemark
front point [] = []
front point (placed ∷ rest) = if nat_eq placed.point point then placed ∷ front point rest else []

abbrev pub behind : ℕ → List PlacedRemark → List PlacedRemark
behind point [] = []
behind point (placed ∷ rest) = if nat_eq placed.point point then behind point rest else placed ∷ rest

-- a remark as a lint, where it is kept
abbrev pub told : PlacedRemark → List PlacedLint
told placed = if is_kept placed.remark then record { point = placed.point; lint = Told placed.remark } ∷ [] else []

abbrev pub all_told : List PlacedRemark → List PlacedLint
all_told remarks = flat_map told remarks
