-- What is shown of the rounds of an iteration in one procedure.
use Rattle.std.specs.Prelude.{◌≡◌, ℕ, suc, Bool, true, false, List, ◌++◌, Option, None, Some, nat_le}
use Rattle.flow_graph.specs.Points.{end_place}
use Rattle.flow_steps.specs.StepTexts.{IsStepText, most_points}
use Rattle.flow_views.specs.declared.view.View.{View}
use Rattle.json_texts.specs.Changes.{IsJsonChanges}
use Rattle.tac_program.specs.Programs.{Program}
use Rattle.view_words.specs.declared.options.Format.{Format}
use Rattle.view_words.specs.declared.options.Format.TheVariants as format

-- Whether a format tells rounds, which are of one procedure.
abbrev pub tells_rounds : Format → Bool
tells_rounds format.Dot = false
tells_rounds format.Calls = false
tells_rounds format.Blocks = false
tells_rounds format.Json = false
tells_rounds format.JsonPaths = false
tells_rounds format.JsonChanges = false
tells_rounds format.Steps = true
tells_rounds format.Report = false
tells_rounds format.Html = false
tells_rounds format.HtmlPaths = false
tells_rounds format.HtmlSteps = true

-- whether a procedure has few enough points for its rounds to be shown, its end too
abbrev pub has_few_points : Program → ℕ → Bool
has_few_points program procedure = nat_le (suc (end_place program procedure)) most_points

-- The rounds in the procedure that is shown, which has few enough points for them.
pub record AreShownSteps (program : Program) (view : View) (out : List ℕ) : Type 0 where
  pub procedure : ℕ
  pub is_shown : view.procedure ≡ Some procedure
  pub is_few : has_few_points program procedure ≡ true
  pub is_text : IsStepText program view out

-- The lines of what changes from point to point in it, and behind them those of the rounds.
pub record AreLinesWithSteps (program : Program) (view : View) (out : List ℕ) : Type 0 where
  pub changes : List ℕ
  pub are_changes : IsJsonChanges program view changes
  pub steps : List ℕ
  pub are_steps : AreShownSteps program view steps
  pub is_text : out ≡ changes ++ steps

-- Rounds are to be shown, in a procedure that has too many points for them.
abbrev pub IsTooLarge : (rounds : Bool) → Program → Option ℕ → Type 0
IsTooLarge rounds program None = ⊥
IsTooLarge rounds program (Some procedure) = (rounds ≡ true) × (has_few_points program procedure ≡ false)
