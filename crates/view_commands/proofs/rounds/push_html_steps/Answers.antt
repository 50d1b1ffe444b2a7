use Rattle.std.proofs.Common.{List, ℕ, ◌++◌, refl}
use Rattle.flow_runs.proofs.deliveries.Deliveries.{delivers_as}
use Rattle.source_lines.specs.SourceLines.{Lined}
use Rattle.view_commands.proofs.rounds.push_html_steps.Goals as goal

pub returns-clause-delivers : goal.returns-clause-delivers
returns-clause-delivers g c =
    let changes : Lined = c.in_ok-changes.changes in
    let steps : List ℕ = c.in_ok-steps.steps in
    delivers_as _ _ _ _ c.push_page.result
    (λ out is. record {
      lines = changes.first ++ changes.others ++ steps;
      are_lines = record {
        changes = changes.first ++ changes.others;
        are_changes = c.in_ok-changes.ensures.lines;
        steps = steps;
        are_steps = record {
          procedure = c.in_ok-procedure.procedure;
          is_shown = c.in_ok-procedure.ensures.shown;
          is_few = c.in_ok-procedure.ensures.few;
          is_text = c.in_ok-steps.ensures;
        };
        is_text = refl;
      };
      is_page = is;
    })
    c.push_page.ensures.delivers
