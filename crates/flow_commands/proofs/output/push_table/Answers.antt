use Rattle.std.proofs.Common.{List, ℕ, sym, subst}
use Rattle.flow_texts.specs.Tables.{IsTableText}
use Rattle.flow_runs.proofs.deliveries.Deliveries.{delivers_as}
use Rattle.flow_commands.proofs.output.push_table.Goals as goal

pub returns-clause-delivers : goal.returns-clause-delivers
returns-clause-delivers g c =
    delivers_as _ _ _ _ c.push_text.result
    (λ out is. subst (λ (t : List ℕ). IsTableText c.args.graph.now c.args.table.now.analysis t) (sym is) c.in_ok-text.ensures)
    c.push_text.ensures.delivers
