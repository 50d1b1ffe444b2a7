use Rattle.std.proofs.Common.{List, ℕ, sym, subst}
use Rattle.flow_runs.proofs.deliveries.Deliveries.{delivers_as}
use Rattle.flow_steps.specs.StepTexts.{IsStepText}
use Rattle.view_commands.proofs.rounds.push_steps.Goals as goal

pub returns-clause-delivers : goal.returns-clause-delivers
returns-clause-delivers g c =
    delivers_as _ _ _ _ c.push_text.result
    (λ out is. record {
      procedure = c.in_ok-procedure.procedure;
      is_shown = c.in_ok-procedure.ensures.shown;
      is_few = c.in_ok-procedure.ensures.few;
      is_text = subst (λ (t : List ℕ). IsStepText c.args.graph.now c.args.view t) (sym is) c.in_ok-text.ensures;
    })
    c.push_text.ensures.delivers
