use Rattle.std.proofs.Common.{List, ℕ, ◌++◌, ◌∙◌, flat_map, subst, ap}
use Rattle.tac_program.specs.Programs.{Program}
use Rattle.flow_views.specs.code.ViewProgram.{AreShown, known_of}
use Rattle.flow_views.specs.Json.{IsJson, end_line, point_line, program_line, remark_object}
use Rattle.flow_views.specs.Views.{shown_points}
use Rattle.flow_views.specs.declared.view_program.ViewProgram.{ViewProgram}
use Rattle.flow_views.specs.declared.view.View.{View}
use Rattle.flow_views.proofs.facts.Known.{all_of, all_of_is, known_agrees, known_all}
use Rattle.flow_views.proofs.texts.SameTexts.{same_json}
use Rattle.json_texts.specs.code.Lined.{remarks_with, set_lines}
use Rattle.json_texts.proofs.told.Lined.{regrouped}
use Rattle.json_texts.proofs.json.JsonText.of.Goals as goal

pub returns-clause-first : goal.returns-clause-first
returns-clause-first c = ap program_line c.in_ok-shown.ensures.program

pub returns-clause-lines : goal.returns-clause-lines
returns-clause-lines c =
    let shown : ViewProgram = c.in_ok-shown.shown in
    let are : AreShown shown = c.in_ok-shown.ensures.shown in
    let program : Program = shown.found.graph.now in
    let text : List ℕ = program_line program ++ set_lines program (known_of shown) shown.view in
    subst (λ (p : Program). IsJson p c.args.view text) c.in_ok-shown.ensures.program
    (subst (λ (v : View). IsJson program v text) c.in_ok-shown.ensures.view
    record {
      known = all_of shown are;
      is_known = all_of_is shown are;
      is_text = regrouped (program_line program) (flat_map (point_line program (known_of shown) shown.view.facts) (shown_points program shown.view))
          (remarks_with remark_object program (known_of shown) shown.view) (end_line program shown.view)
          ∙ same_json program are.found.sound (known_of shown) (all_of shown are) (known_agrees shown are) shown.view.facts
          shown.view.procedure shown.view.look are.procedure (known_all shown are);
    })
