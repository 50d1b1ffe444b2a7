use Rattle.std.proofs.Common.{◌≡◌, List, Option, ℕ, Result, IfErr, sym, subst}
use Rattle.flow_runs.specs.Faults.{Delivers, OfProcedure, OfProgram}
use Rattle.flow_runs.specs.declared.fault.Fault.{Fault}
use Rattle.flow_runs.proofs.deliveries.Deliveries.{no_procedure_fault}
use Rattle.flow_views.specs.declared.view.View.{View}
use Rattle.tac_program.specs.Programs.{Program}
use Rattle.view_commands.specs.Steps.{IsTooLarge, tells_rounds}
use Rattle.view_commands.specs.Views.{IsText, LacksNamed, Request, request_of}
use Rattle.view_words.specs.Commands.{because_queried}
use Rattle.view_words.specs.declared.options.Format.{Format}
use Rattle.view_words.specs.declared.options.Format.TheVariants as format
use Rattle.view_commands.proofs.views.view_of_graph.Goals as goal

-- the text of a format is that of the one that is asked for
text_as : {T : Type 0} (request : Request) (digest source : List ℕ) (program : Program) (view : View) (wanted known : Format)
    (held holds : Option (List ℕ)) (r : Result T Fault) → wanted ≡ known → Delivers (IsText known request digest source program view) held holds r
    → Delivers (IsText wanted request digest source program view) held holds r
text_as request digest source program view wanted known held holds r same told =
    subst (λ (kind : Format). Delivers (IsText kind request digest source program view) held holds r) (sym same) told

-- what is told of a text for which nothing is looked up
plain_fault : {T : Type 0} (R U : Type 0) (r : Result T Fault) → IfErr r (OfProgram (λ _. ⊥) ⊥ ⊥) → IfErr r (OfProcedure (λ _. ⊥) ⊥ R U)
plain_fault R U r told = no_procedure_fault (λ _. ⊥) ⊥ R ⊥ U ⊥ r (λ none. absurd none) (λ none. absurd none) told

-- what is told of rounds
rounds_fault : {T : Type 0} (R : Type 0) (program : Program) (shown : Option ℕ) (wanted known : Format) (r : Result T Fault) → wanted ≡ known
    → IfErr r (OfProcedure (λ _. ⊥) ⊥ ⊥ (IsTooLarge (tells_rounds known) program shown))
    → IfErr r (OfProcedure (λ _. ⊥) ⊥ R (IsTooLarge (tells_rounds wanted) program shown))
rounds_fault R program shown wanted known r same told =
    no_procedure_fault (λ _. ⊥) ⊥ R ⊥ (IsTooLarge (tells_rounds wanted) program shown) (IsTooLarge (tells_rounds known) program shown) r
    (λ none. absurd none) (λ large. subst (λ (kind : Format). IsTooLarge (tells_rounds kind) program shown) (sym same) large) told

pub returns-in-Dot-clause-delivers : goal.returns-in-Dot-clause-delivers
returns-in-Dot-clause-delivers g c =
    text_as (request_of c.args.options.now) c.args.shown.digest.now c.args.shown.source.now c.args.graph.now c.args.shown.view
    c.args.options.now.format format.Dot (g.K.Sink.contents c.args.sink.now) (g.K.Sink.contents c.push_picture.new.sink) c.push_picture.result c.in-Dot.is
    c.push_picture.ensures.delivers

pub returns-in-Dot-clause-fault : goal.returns-in-Dot-clause-fault
returns-in-Dot-clause-fault g c =
    no_procedure_fault (λ _. ⊥) ⊥ (LacksNamed (because_queried c.args.options.now) c.args.graph.now c.args.shown.view)
    (LacksNamed (because_queried c.args.options.now) c.args.graph.now c.args.shown.view)
    (IsTooLarge (tells_rounds c.args.options.now.format) c.args.graph.now c.args.shown.view.procedure) ⊥ c.push_picture.result
    (λ none. none) (λ large. absurd large) c.push_picture.ensures.fault

pub returns-in-Calls-clause-delivers : goal.returns-in-Calls-clause-delivers
returns-in-Calls-clause-delivers g c =
    text_as (request_of c.args.options.now) c.args.shown.digest.now c.args.shown.source.now c.args.graph.now c.args.shown.view
    c.args.options.now.format format.Calls (g.K.Sink.contents c.args.sink.now) (g.K.Sink.contents c.push_calls.new.sink) c.push_calls.result c.in-Calls.is
    c.push_calls.ensures.delivers

pub returns-in-Calls-clause-fault : goal.returns-in-Calls-clause-fault
returns-in-Calls-clause-fault g c =
    plain_fault (LacksNamed (because_queried c.args.options.now) c.args.graph.now c.args.shown.view)
    (IsTooLarge (tells_rounds c.args.options.now.format) c.args.graph.now c.args.shown.view.procedure) c.push_calls.result
    c.push_calls.ensures.fault

pub returns-in-Blocks-clause-delivers : goal.returns-in-Blocks-clause-delivers
returns-in-Blocks-clause-delivers g c =
    text_as (request_of c.args.options.now) c.args.shown.digest.now c.args.shown.source.now c.args.graph.now c.args.shown.view
    c.args.options.now.format format.Blocks (g.K.Sink.contents c.args.sink.now) (g.K.Sink.contents c.push_blocks.new.sink) c.push_blocks.result c.in-Blocks.is
    c.push_blocks.ensures.delivers

pub returns-in-Blocks-clause-fault : goal.returns-in-Blocks-clause-fault
returns-in-Blocks-clause-fault g c =
    plain_fault (LacksNamed (because_queried c.args.options.now) c.args.graph.now c.args.shown.view)
    (IsTooLarge (tells_rounds c.args.options.now.format) c.args.graph.now c.args.shown.view.procedure) c.push_blocks.result
    c.push_blocks.ensures.fault

pub returns-in-Json-clause-delivers : goal.returns-in-Json-clause-delivers
returns-in-Json-clause-delivers g c =
    text_as (request_of c.args.options.now) c.args.shown.digest.now c.args.shown.source.now c.args.graph.now c.args.shown.view
    c.args.options.now.format format.Json (g.K.Sink.contents c.args.sink.now) (g.K.Sink.contents c.push_json_or_part.new.sink) c.push_json_or_part.result c.in-Json.is
    c.push_json_or_part.ensures.delivers

pub returns-in-Json-clause-fault : goal.returns-in-Json-clause-fault
returns-in-Json-clause-fault g c =
    plain_fault (LacksNamed (because_queried c.args.options.now) c.args.graph.now c.args.shown.view)
    (IsTooLarge (tells_rounds c.args.options.now.format) c.args.graph.now c.args.shown.view.procedure) c.push_json_or_part.result
    c.push_json_or_part.ensures.fault

pub returns-in-JsonPaths-clause-delivers : goal.returns-in-JsonPaths-clause-delivers
returns-in-JsonPaths-clause-delivers g c =
    text_as (request_of c.args.options.now) c.args.shown.digest.now c.args.shown.source.now c.args.graph.now c.args.shown.view
    c.args.options.now.format format.JsonPaths (g.K.Sink.contents c.args.sink.now) (g.K.Sink.contents c.push_json_paths.new.sink) c.push_json_paths.result c.in-JsonPaths.is
    c.push_json_paths.ensures.delivers

pub returns-in-JsonPaths-clause-fault : goal.returns-in-JsonPaths-clause-fault
returns-in-JsonPaths-clause-fault g c =
    plain_fault (LacksNamed (because_queried c.args.options.now) c.args.graph.now c.args.shown.view)
    (IsTooLarge (tells_rounds c.args.options.now.format) c.args.graph.now c.args.shown.view.procedure) c.push_json_paths.result
    c.push_json_paths.ensures.fault

pub returns-in-JsonChanges-clause-delivers : goal.returns-in-JsonChanges-clause-delivers
returns-in-JsonChanges-clause-delivers g c =
    text_as (request_of c.args.options.now) c.args.shown.digest.now c.args.shown.source.now c.args.graph.now c.args.shown.view
    c.args.options.now.format format.JsonChanges (g.K.Sink.contents c.args.sink.now) (g.K.Sink.contents c.push_json_changes.new.sink) c.push_json_changes.result c.in-JsonChanges.is
    c.push_json_changes.ensures.delivers

pub returns-in-JsonChanges-clause-fault : goal.returns-in-JsonChanges-clause-fault
returns-in-JsonChanges-clause-fault g c =
    plain_fault (LacksNamed (because_queried c.args.options.now) c.args.graph.now c.args.shown.view)
    (IsTooLarge (tells_rounds c.args.options.now.format) c.args.graph.now c.args.shown.view.procedure) c.push_json_changes.result
    c.push_json_changes.ensures.fault

pub returns-in-Steps-clause-delivers : goal.returns-in-Steps-clause-delivers
returns-in-Steps-clause-delivers g c =
    text_as (request_of c.args.options.now) c.args.shown.digest.now c.args.shown.source.now c.args.graph.now c.args.shown.view
    c.args.options.now.format format.Steps (g.K.Sink.contents c.args.sink.now) (g.K.Sink.contents c.push_steps.new.sink) c.push_steps.result c.in-Steps.is
    c.push_steps.ensures.delivers

pub returns-in-Steps-clause-fault : goal.returns-in-Steps-clause-fault
returns-in-Steps-clause-fault g c =
    rounds_fault (LacksNamed (because_queried c.args.options.now) c.args.graph.now c.args.shown.view) c.args.graph.now
    c.args.shown.view.procedure c.args.options.now.format format.Steps c.push_steps.result c.in-Steps.is c.push_steps.ensures.fault

pub returns-in-Report-clause-delivers : goal.returns-in-Report-clause-delivers
returns-in-Report-clause-delivers g c =
    text_as (request_of c.args.options.now) c.args.shown.digest.now c.args.shown.source.now c.args.graph.now c.args.shown.view
    c.args.options.now.format format.Report (g.K.Sink.contents c.args.sink.now) (g.K.Sink.contents c.push_report_or_part.new.sink) c.push_report_or_part.result c.in-Report.is
    c.push_report_or_part.ensures.delivers

pub returns-in-Report-clause-fault : goal.returns-in-Report-clause-fault
returns-in-Report-clause-fault g c =
    plain_fault (LacksNamed (because_queried c.args.options.now) c.args.graph.now c.args.shown.view)
    (IsTooLarge (tells_rounds c.args.options.now.format) c.args.graph.now c.args.shown.view.procedure) c.push_report_or_part.result
    c.push_report_or_part.ensures.fault

pub returns-in-Html-clause-delivers : goal.returns-in-Html-clause-delivers
returns-in-Html-clause-delivers g c =
    text_as (request_of c.args.options.now) c.args.shown.digest.now c.args.shown.source.now c.args.graph.now c.args.shown.view
    c.args.options.now.format format.Html (g.K.Sink.contents c.args.sink.now) (g.K.Sink.contents c.push_html.new.sink) c.push_html.result c.in-Html.is
    c.push_html.ensures.delivers

pub returns-in-Html-clause-fault : goal.returns-in-Html-clause-fault
returns-in-Html-clause-fault g c =
    plain_fault (LacksNamed (because_queried c.args.options.now) c.args.graph.now c.args.shown.view)
    (IsTooLarge (tells_rounds c.args.options.now.format) c.args.graph.now c.args.shown.view.procedure) c.push_html.result
    c.push_html.ensures.fault

pub returns-in-HtmlPaths-clause-delivers : goal.returns-in-HtmlPaths-clause-delivers
returns-in-HtmlPaths-clause-delivers g c =
    text_as (request_of c.args.options.now) c.args.shown.digest.now c.args.shown.source.now c.args.graph.now c.args.shown.view
    c.args.options.now.format format.HtmlPaths (g.K.Sink.contents c.args.sink.now) (g.K.Sink.contents c.push_html_paths.new.sink) c.push_html_paths.result c.in-HtmlPaths.is
    c.push_html_paths.ensures.delivers

pub returns-in-HtmlPaths-clause-fault : goal.returns-in-HtmlPaths-clause-fault
returns-in-HtmlPaths-clause-fault g c =
    plain_fault (LacksNamed (because_queried c.args.options.now) c.args.graph.now c.args.shown.view)
    (IsTooLarge (tells_rounds c.args.options.now.format) c.args.graph.now c.args.shown.view.procedure) c.push_html_paths.result
    c.push_html_paths.ensures.fault

pub returns-in-HtmlSteps-clause-delivers : goal.returns-in-HtmlSteps-clause-delivers
returns-in-HtmlSteps-clause-delivers g c =
    text_as (request_of c.args.options.now) c.args.shown.digest.now c.args.shown.source.now c.args.graph.now c.args.shown.view
    c.args.options.now.format format.HtmlSteps (g.K.Sink.contents c.args.sink.now) (g.K.Sink.contents c.push_html_steps.new.sink) c.push_html_steps.result c.in-HtmlSteps.is
    c.push_html_steps.ensures.delivers

pub returns-in-HtmlSteps-clause-fault : goal.returns-in-HtmlSteps-clause-fault
returns-in-HtmlSteps-clause-fault g c =
    rounds_fault (LacksNamed (because_queried c.args.options.now) c.args.graph.now c.args.shown.view) c.args.graph.now
    c.args.shown.view.procedure c.args.options.now.format format.HtmlSteps c.push_html_steps.result c.in-HtmlSteps.is c.push_html_steps.ensures.fault
