use Rattle.std.proofs.Common.{List, ℕ, sym, subst}
use Rattle.flow_runs.proofs.deliveries.Deliveries.{delivers_as}
use Rattle.block_dots.specs.BlockDots.{IsBlockDot}
use Rattle.view_commands.proofs.views.push_blocks.Goals as goal

pub returns-clause-delivers : goal.returns-clause-delivers
returns-clause-delivers g c =
    delivers_as _ _ _ _ c.push_text.result
    (λ out is. subst (λ (t : List ℕ). IsBlockDot c.args.graph.now c.args.view t) (sym is) c.in_ok-text.ensures)
    c.push_text.ensures.delivers
