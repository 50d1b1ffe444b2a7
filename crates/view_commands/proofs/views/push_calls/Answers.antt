use Rattle.std.proofs.Common.{List, ℕ, sym, subst}
use Rattle.flow_runs.proofs.deliveries.Deliveries.{delivers_as}
use Rattle.call_dots.specs.CallDots.{IsCallDot}
use Rattle.view_commands.proofs.views.push_calls.Goals as goal

pub returns-clause-delivers : goal.returns-clause-delivers
returns-clause-delivers g c =
    delivers_as _ _ _ _ c.push_text.result
    (λ out is. subst (λ (t : List ℕ). IsCallDot c.args.graph.now c.args.legend t) (sym is) c.in_ok-text.ensures)
    c.push_text.ensures.delivers
