use Rattle.std.proofs.Common.{List, ℕ, ◌++◌, ◌∙◌, flat_map, subst, ap, sym}
use Rattle.tac_program.specs.Programs.{Program}
use Rattle.doubt_origins.specs.Origins.{AreOrigins, origins_in}
use Rattle.flow_views.specs.code.ViewProgram.{AreShown, known_of}
use Rattle.flow_views.specs.Json.{end_line}
use Rattle.flow_views.specs.Views.{shown_points}
use Rattle.json_texts.specs.Changes.{IsJsonChanges, changed_point_line, changed_remarks, named_program_line}
use Rattle.json_texts.specs.code.Lined.{difference_lines}
use Rattle.json_texts.proofs.told.Lined.{regrouped}
use Rattle.flow_views.specs.declared.view_program.ViewProgram.{ViewProgram}
use Rattle.flow_views.specs.declared.view.View.{View}
use Rattle.flow_views.proofs.facts.Known.{all_of, all_of_is, known_agrees, known_all}
use Rattle.json_texts.proofs.told.SameChanges.{same_changes}
use Rattle.json_texts.proofs.changes.JsonChangesText.of.Goals as goal

pub returns-clause-first : goal.returns-clause-first
returns-clause-first c = ap named_program_line c.in_ok-shown.ensures.program

pub returns-clause-lines : goal.returns-clause-lines
returns-clause-lines c =
    let shown : ViewProgram = c.in_ok-shown.shown in
    let are : AreShown shown = c.in_ok-shown.ensures.shown in
    let program : Program = shown.found.graph.now in
    let origins = origins_in c.in_ok-origins.origins.items in
    let text : List ℕ = named_program_line program ++ difference_lines origins program (known_of shown) shown.view in
    subst (λ (p : Program). IsJsonChanges p c.args.view text) c.in_ok-shown.ensures.program
    (subst (λ (v : View). IsJsonChanges program v text) c.in_ok-shown.ensures.view
    record {
      known = all_of shown are;
      is_known = all_of_is shown are;
      origins = origins;
      are_origins = subst (λ (p : Program). AreOrigins p origins) (sym c.in_ok-shown.ensures.program)
          c.in_ok-origins.ensures;
      is_text = regrouped (named_program_line program)
          (flat_map (changed_point_line origins program (known_of shown) shown.view.facts) (shown_points program shown.view))
          (flat_map (changed_remarks program (known_of shown) shown.view.facts) (shown_points program shown.view)) (end_line program shown.view)
          ∙ same_changes program are.found.sound (known_of shown) (all_of shown are) (known_agrees shown are) shown.view.facts
          shown.view.procedure shown.view.look are.procedure (known_all shown are) origins;
    })
