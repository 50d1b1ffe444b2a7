use Rattle.std.proofs.Common.{List, ℕ, Result, Ok, Err, IfErr, subst}
use Rattle.flow_graph.specs.declared.fault.GraphFault.{GraphFault}
use Rattle.flow_runs.proofs.deliveries.Deliveries.{delivers_as}
use Rattle.flow_runs.specs.Faults.{OfProcedure}
use Rattle.flow_runs.specs.Runs.{IsOverLimit}
use Rattle.flow_runs.specs.declared.fault.Fault.{Fault}
use Rattle.flow_runs.specs.declared.fault.Fault.TheVariants as fault
use Rattle.flow_views.specs.declared.view.View.{View}
use Rattle.tac_program.specs.Programs.{Program}
use Rattle.view_commands.specs.Steps.{IsTooLarge, tells_rounds}
use Rattle.view_commands.specs.Views.{HasLargeProcedure, IsText, LacksNamed, LacksProcedure, LacksRemark, Request, request_of, view_for}
use Rattle.view_words.specs.Commands.{because_queried, name_queried}
use Rattle.view_words.specs.declared.options.Options.{Options}
use Rattle.view_commands.proofs.views.GatedOptionsOutput.write.Goals as goal

pub returns-clause-delivers : goal.returns-clause-delivers
returns-clause-delivers g c =
    delivers_as _ _ _ _ c.write_view.result
    (λ out is. (
      (λ needed. (is.0, is.1)),
      record {
        procedure = c.in_ok-view.view.procedure;
        queried = c.in_ok-view.ensures.procedure;
        text = subst (λ (source : List ℕ).
            IsText c.args.self.now.options.now.format (request_of c.args.self.now.options.now) c.args.mark.now source c.args.program.now
            (view_for (request_of c.args.self.now.options.now) c.in_ok-view.view.procedure) out)
            c.source_of.ensures
            (subst (λ (view : View).
            IsText c.args.self.now.options.now.format (request_of c.args.self.now.options.now) c.args.mark.now c.source_of.result.now
            c.args.program.now view out)
            c.in_ok-view.ensures.view is.2);
      },
    ))
    c.write_view.ensures.delivers

-- what is told of a program by what is told of what is shown of it
told_as : {T : Type 0} (P : GraphFault → Type 0) (Q R S U V : Type 0) (r : Result T Fault) → (S → R) → (V → U) → IfErr r (OfProcedure P ⊥ S V)
    → IfErr r (OfProcedure P Q R U)
told_as P Q R S U V (Ok x) of large told = tt
told_as P Q R S U V (Err fault.Write) of large told = told
told_as P Q R S U V (Err (fault.Refused f)) of large told = told
told_as P Q R S U V (Err (fault.Graph f)) of large told = told
told_as P Q R S U V (Err fault.NoProcedure) of large told = absurd told
told_as P Q R S U V (Err fault.LargeProcedure) of large told = large told
told_as P Q R S U V (Err fault.NoRemark) of large told = of told
told_as P Q R S U V (Err fault.OutOfMemory) of large told = told
told_as P Q R S U V (Err fault.Read) of large told = told

pub returns-clause-fault : goal.returns-clause-fault
returns-clause-fault g c =
    let options : Options = c.args.self.now.options.now in
    let request : Request = request_of options in
    let program : Program = c.args.program.now in
    let view : View = c.in_ok-view.view in
    told_as (IsOverLimit options.limits program) (LacksProcedure (tells_rounds options.format) (name_queried options) program)
    (LacksRemark request program) (LacksNamed (because_queried options) program view) (HasLargeProcedure request program)
    (IsTooLarge (tells_rounds options.format) program view.procedure) c.write_view.result
    (λ none. record {
      procedure = view.procedure;
      queried = c.in_ok-view.ensures.procedure;
      none = subst (λ (v : View). LacksNamed (because_queried options) program v) c.in_ok-view.ensures.view none;
    })
    (λ large. record { procedure = view.procedure; queried = c.in_ok-view.ensures.procedure; large = large }) c.write_view.ensures.fault
