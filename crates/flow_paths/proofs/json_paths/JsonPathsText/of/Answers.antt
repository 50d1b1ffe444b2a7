use Rattle.std.proofs.Common.{List, ℕ, ◌++◌, ◌∙◌, flat_map, ap, subst, sym}
use Rattle.tac_program.specs.Programs.{Program}
use Rattle.doubt_origins.specs.Origins.{AreOrigins, origins_in}
use Rattle.flow_paths.specs.Doubts.{AreDoubts, doubt_line}
use Rattle.flow_paths.specs.Paths.{IsJsonWithPaths, remark_with_path}
use Rattle.flow_paths.specs.code.Lined.{first_line, path_lines}
use Rattle.flow_paths.proofs.lists.Lined.{lined_is}
use Rattle.flow_paths.specs.Sets.{Sets}
use Rattle.flow_paths.specs.code.Arounds.{AreSetsOf, around_at, sets_of}
use Rattle.flow_paths.specs.code.UnsetPaths.{hops_at}
use Rattle.flow_reports.specs.Reports.{IsKnowledge, Knowledge}
use Rattle.flow_views.specs.Json.{end_line}
use Rattle.flow_views.specs.code.ViewProgram.{AreShown, known_of}
use Rattle.flow_views.specs.declared.view_program.ViewProgram.{ViewProgram}
use Rattle.flow_views.specs.declared.view.View.{View}
use Rattle.flow_views.proofs.facts.Known.{all_of, all_of_is, known_agrees, known_all}
use Rattle.flow_paths.specs.declared.doubts.Doubt.{Doubt}
use Rattle.flow_paths.proofs.lists.SameLines.{same_lines_with}
use Rattle.flow_paths.proofs.json_paths.JsonPathsText.of.Goals as goal

pub returns-clause-first : goal.returns-clause-first
returns-clause-first c = ap (first_line c.args.changes) c.in_ok-shown.ensures.program

pub returns-clause-lines : goal.returns-clause-lines
returns-clause-lines c =
    let shown : ViewProgram = c.in_ok-shown.shown in
    let are : AreShown shown = c.in_ok-shown.ensures.shown in
    let program : Program = shown.found.graph.now in
    let around = c.in_ok-around.around in
    let sets : Sets = sets_of (around_at around.arounds) in
    let list : List Doubt = around.doubts.items in
    let object = remark_with_path (hops_at c.in_ok-paths.paths) sets in
    let told : AreSetsOf program c.args.view around.arounds =
    subst (λ (p : Program). AreSetsOf p c.args.view around.arounds) (sym c.in_ok-shown.ensures.program) c.in_ok-around.ensures.sets in
    let doubted : (known : Knowledge) → IsKnowledge program known → AreDoubts program known c.args.view list =
    subst (λ (p : Program). (known : Knowledge) → IsKnowledge p known → AreDoubts p known c.args.view list) (sym c.in_ok-shown.ensures.program)
    c.in_ok-around.ensures.doubts in
    let origins = origins_in c.in_ok-origins.origins.items in
    let text : List ℕ = first_line c.args.changes program
    ++ path_lines c.args.changes origins (hops_at c.in_ok-paths.paths) sets list program (known_of shown) shown.view in
    subst (λ (p : Program). IsJsonWithPaths c.args.changes p c.args.view text) c.in_ok-shown.ensures.program
    (subst (λ (v : View). IsJsonWithPaths c.args.changes program v text) c.in_ok-shown.ensures.view
    record {
      known = all_of shown are;
      is_known = all_of_is shown are;
      origins = origins;
      are_origins = subst (λ (p : Program). AreOrigins p origins) (sym c.in_ok-shown.ensures.program) c.in_ok-origins.ensures;
      hops = hops_at c.in_ok-paths.paths;
      are_witnesses = c.in_ok-paths.ensures (all_of shown are) (all_of_is shown are);
      sets = sets;
      are_exact = subst (λ (v : View). AreSetsOf program v around.arounds) (sym c.in_ok-shown.ensures.view) told (all_of shown are) (all_of_is shown are);
      doubts = list;
      are_doubts = subst (λ (v : View). AreDoubts program (all_of shown are) v list) (sym c.in_ok-shown.ensures.view)
          (doubted (all_of shown are) (all_of_is shown are));
      is_text = lined_is c.args.changes origins (hops_at c.in_ok-paths.paths) sets list program (known_of shown) shown.view
          ∙ ap (λ lines. lines ++ flat_map (doubt_line program) list ++ end_line program shown.view)
          (same_lines_with c.args.changes program are.found.sound (known_of shown) (all_of shown are) (known_agrees shown are) shown.view.facts
          shown.view.procedure shown.view.look are.procedure (known_all shown are) origins object);
    })
