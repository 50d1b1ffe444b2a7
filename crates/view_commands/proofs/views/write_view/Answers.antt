use Rattle.std.proofs.Common.{Option, ℕ, subst}
use Rattle.tac_program.specs.Programs.{Program}
use Rattle.flow_runs.specs.Runs.{IsOverLimit}
use Rattle.flow_runs.proofs.deliveries.Deliveries.{delivers_as, no_procedure_fault}
use Rattle.view_commands.specs.Steps.{IsTooLarge, tells_rounds}
use Rattle.view_commands.specs.Views.{IsText, LacksNamed, request_of}
use Rattle.view_words.specs.Commands.{because_queried}
use Rattle.view_commands.proofs.views.write_view.Goals as goal

pub returns-clause-delivers : goal.returns-clause-delivers
returns-clause-delivers g c =
    let made = c.in_ok-graph.ensures in
    delivers_as _ _ _ _ c.view_of_graph.result
    (λ out is. (
      made.few_points,
      made.few_bits,
      subst (λ (p : Program). IsText c.args.gated.now.options.now.format (request_of c.args.gated.now.options.now) c.args.shown.digest.now
          c.args.shown.source.now p c.args.shown.view out)
          made.graph is,
    ))
    c.view_of_graph.ensures.delivers

pub returns-clause-fault : goal.returns-clause-fault
returns-clause-fault g c =
    let because = because_queried c.args.gated.now.options.now in
    let rounds = tells_rounds c.args.gated.now.options.now.format in
    let shown : Option ℕ = c.args.shown.view.procedure in
    no_procedure_fault (IsOverLimit c.args.gated.now.options.now.limits c.args.program.now) ⊥
    (LacksNamed because c.args.program.now c.args.shown.view) (LacksNamed because c.in_ok-graph.graph c.args.shown.view)
    (IsTooLarge rounds c.args.program.now shown) (IsTooLarge rounds c.in_ok-graph.graph shown) c.view_of_graph.result
    (λ none. subst (λ (p : Program). LacksNamed because p c.args.shown.view) c.in_ok-graph.ensures.graph none)
    (λ large. subst (λ (p : Program). IsTooLarge rounds p shown) c.in_ok-graph.ensures.graph large) c.view_of_graph.ensures.fault
