use Rattle.std.proofs.Common.{◌≡◌, ◌+◌, ◌-◌, ◌∙◌, subst, arith}
use Rattle.flow_team.specs.Excerpts.{IsTableAt}
use Rattle.flow_team.specs.code.Excerpts.{Excerpt}
use Rattle.flow_team.proofs.threads.Sent.{excerpts_cross}
use Rattle.flow_team.proofs.excerpts.table_at.Goals as goal

pub run_workers-requires-send-W : goal.run_workers-requires-send-W
run_workers-requires-send-W g c = λ κs lives. search excerpts_cross depth 60

pub run_workers-requires-send-S : goal.run_workers-requires-send-S
run_workers-requires-send-S g c = λ κs lives. search excerpts_cross depth 60

pub run_workers-requires-sync-W : goal.run_workers-requires-sync-W
run_workers-requires-sync-W g c = λ κs lives. search excerpts_cross depth 60

pub run_workers-requires-sync-S : goal.run_workers-requires-sync-S
run_workers-requires-sync-S g c = λ κs lives. search excerpts_cross depth 60

pub returns-clause-table : goal.returns-clause-table
returns-clause-table g c =
    let whole : c.args.from + (c.args.until - c.args.from) ≡ c.args.until = omega (arith, c.requires.ordered) in
    subst (λ n. IsTableAt c.args.graph.now c.args.from n c.closed_table.result) whole
    (subst (λ (e : Excerpt). IsTableAt e.form.program e.first (e.first + e.count) c.closed_table.result)
    (c.in_ok-job.ensures.wanted ∙ c.in_ok-excerpt.ensures) c.closed_table.ensures.table)
