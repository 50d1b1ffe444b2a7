use Rattle.std.proofs.Common.{subst}
use Rattle.flow_runs.proofs.deliveries.Deliveries.{no_graph_fault}
use Rattle.flow_runs.specs.Runs.{IsOverLimit}
use Rattle.tac_program.specs.Programs.{Program}
use Rattle.lint_texts.specs.LintTexts.{file_text}
use Rattle.lint_commands.specs.Runs.{Lints, telling_by}
use Rattle.lint_commands.proofs.Deliveries.{told_as}
use Rattle.lint_commands.proofs.runs.push_shown.Goals as goal

pub returns-clause-delivers : goal.returns-clause-delivers
returns-clause-delivers g c =
    let made = c.in_ok-graph.ensures in
    let asked = c.args.asked in
    let telling = telling_by asked.request.kinds asked.request.why asked.request.style c.args.procedure in
    told_as _ _ _ _ c.push_graph.result
    (λ what out is. record {
      few_points = made.few_points;
      few_bits = made.few_bits;
      procedure = c.args.procedure;
      asked = c.requires.asked;
      lints = subst (λ (p : Program). Lints asked.request.form (file_text asked.file) telling p what out) made.graph is;
    })
    c.push_graph.ensures.delivers

pub returns-clause-fault : goal.returns-clause-fault
returns-clause-fault g c = no_graph_fault (IsOverLimit c.args.asked.limits c.args.program.now) ⊥ ⊥ ⊥ c.push_graph.result (λ no. no) c.push_graph.ensures.fault
