-- The lines of what the code's tables and answers tell are those of all that is known, with sets or with differences.
use Rattle.std.proofs.Common.{◌≡◌, ℕ, ◌<◌, ◌≤◌, Bool, true, false, List, length, Option, IfSome}
use Rattle.flow_graph.specs.declared.analysis.Analysis.{Analysis}
use Rattle.flow_paths.specs.Paths.{lines_with}
use Rattle.flow_reports.proofs.knowledge.KnownReports.{Agree}
use Rattle.flow_reports.specs.Reports.{Knowledge}
use Rattle.flow_reports.specs.declared.remark.Remark.{Remark}
use Rattle.flow_views.proofs.texts.SameTexts.{same_json_with}
use Rattle.flow_views.specs.Views.{end_shown, first_shown, is_chosen, known_facts}
use Rattle.flow_views.specs.code.ViewProgram.{TellSame}
use Rattle.flow_views.specs.declared.view.Chosen.{Chosen}
use Rattle.flow_views.specs.declared.view.Look.{Look}
use Rattle.json_texts.proofs.told.SameChanges.{same_changes_with}
use Rattle.tac_program.specs.Programs.{Program}
use Rattle.tac_program.specs.Sound.{IsSound}

pub same_lines_with : (changes : Bool) (program : Program) → IsSound program → (one other : Knowledge) → Agree program one other
    → (chosen : Chosen) (procedure : Option ℕ) (look : Look) → IfSome procedure (λ p. p < length program.procedures)
    → ((analysis : Analysis) → is_chosen chosen analysis ≡ true → (point : ℕ)
    → (first_shown program procedure ≤ point) × (point < end_shown program procedure)
    → TellSame (known_facts one analysis) (known_facts other analysis) point)
    → (origins : ℕ → Option ℕ) (object : Program → ℕ → Remark → List ℕ)
    → lines_with changes origins object program one (record { facts = chosen; procedure = procedure; look = look })
    ≡ lines_with changes origins object program other (record { facts = chosen; procedure = procedure; look = look })
same_lines_with false program sound one other agree chosen procedure look there told origins object =
    same_json_with program sound one other agree chosen procedure look there told object
same_lines_with true program sound one other agree chosen procedure look there told origins object =
    same_changes_with program sound one other agree chosen procedure look there told origins object
