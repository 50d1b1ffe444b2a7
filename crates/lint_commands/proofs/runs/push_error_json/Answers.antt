use Rattle.std.proofs.Common.{◌∙◌}
use Rattle.flow_runs.proofs.deliveries.Deliveries.{delivers_as}
use Rattle.lint_commands.proofs.runs.push_error_json.Goals as goal

pub returns-clause-delivers : goal.returns-clause-delivers
returns-clause-delivers g c =
    delivers_as _ _ _ _ c.push_text.result (λ out is. is ∙ c.as_slice.ensures.value ∙ c.in_ok-text.ensures) c.push_text.ensures.delivers
