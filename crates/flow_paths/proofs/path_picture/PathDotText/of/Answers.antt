use Rattle.std.proofs.Common.{◌≡◌, ◌∙◌, ℕ, Bool, ◌&&◌, List, [], Some, None, ap₂, subst, sym}
use Rattle.std.specs.Prelude.{nat_le, nat_lt}
use Rattle.std.specs.List.{filter}
use Rattle.std.proofs.lemmas.List.Elements.{All-cons, All-nil}
use Rattle.flow_graph.specs.Analyses.{shape_of, transfer_of}
use Rattle.flow_graph.specs.declared.analysis.Analysis.TheVariants.{Reach}
use Rattle.flow_reports.specs.declared.unset.UnsetUse.{UnsetUse}
use Rattle.flow_views.specs.Dots.{open_dot}
use Rattle.flow_views.specs.Views.{end_shown, first_shown}
use Rattle.flow_views.specs.code.ViewProgram.{AreShown, known_of}
use Rattle.flow_views.specs.declared.view_program.ViewProgram.{ViewProgram}
use Rattle.flow_views.specs.declared.view.View.{View}
use Rattle.flow_views.proofs.facts.Known.{all_of, all_of_is, known_agrees, known_all}
use Rattle.flow_views.proofs.texts.SameTexts.{same_open}
use Rattle.flow_why.specs.Witnesses.{IsWitness}
use Rattle.flow_why.specs.declared.hop.Hop.{Hop}
use Rattle.tac_program.specs.Programs.{Program}
use Rattle.flow_paths.specs.Pictures.{IsDotWithPath, LacksUse, first_use, is_named, is_point_shown, marked_dot, path_legend}
use Rattle.flow_paths.specs.code.Doubted.{is_shown}
use Rattle.flow_paths.specs.code.UnsetPaths.{IsUnsetUse, hops_at}
use Rattle.flow_paths.proofs.lists.Pictured.{asked_is, named_holds, none_found, one_witness}
use Rattle.flow_paths.proofs.lists.Shown.{shown_uses}
use Rattle.flow_paths.proofs.path_picture.PathDotText.of.Goals as goal

pub use_named-requires : goal.use_named-requires
use_named-requires c =
    shown_uses c.in_ok-shown.shown c.in_ok-shown.ensures.shown c.deref.result.now (c.deref.ensures.value ∙ c.in_ok-uses.ensures.uses) c.args.graph.now
    c.in_ok-shown.ensures.program

pub returns-in_default : goal.returns-in_default
returns-in_default c =
    let shown : ViewProgram = c.in_ok-shown.shown in
    let are : AreShown shown = c.in_ok-shown.ensures.shown in
    let program : Program = shown.found.graph.now in
    let text : List ℕ = c.args.text.now in
    let uses : List UnsetUse = c.deref.result.now in
    let none : first_use (filter (is_named c.args.graph.now text) uses) ≡ None = sym c.in_ok-one.ensures ∙ none_found c.in_ok-one.field-0 c.in_default.not-Some in
    let here : first_use (filter (is_named program text) uses) ≡ None =
    subst (λ (p : Program). first_use (filter (is_named p text) uses) ≡ None) (sym c.in_ok-shown.ensures.program) none in
    subst (λ (p : Program). LacksUse p c.args.view text) c.in_ok-shown.ensures.program
    (subst (λ (v : View). LacksUse program v text) c.in_ok-shown.ensures.view
    record {
      known = all_of shown are;
      is_known = all_of_is shown are;
      none = sym (asked_is shown are uses (c.deref.ensures.value ∙ c.in_ok-uses.ensures.uses) text) ∙ here;
    })

pub of-requires-2-clause-uses : goal.of-requires-2-clause-uses
of-requires-2-clause-uses c =
    let program : Program = c.args.graph.now in
    let one : UnsetUse = c.in-Some.one in
    let uses : List UnsetUse = c.deref.result.now in
    let all = shown_uses c.in_ok-shown.shown c.in_ok-shown.ensures.shown uses (c.deref.ensures.value ∙ c.in_ok-uses.ensures.uses) program
    c.in_ok-shown.ensures.program in
    All-cons (IsUnsetUse program) one []
    (named_holds (IsUnsetUse program) (is_named program c.args.text.now) uses one (sym c.in_ok-one.ensures ∙ c.in-Some.is) all)
    (All-nil (IsUnsetUse program))

pub returns : goal.returns
returns c =
    let shown : ViewProgram = c.in_ok-shown.shown in
    let are : AreShown shown = c.in_ok-shown.ensures.shown in
    let program : Program = shown.found.graph.now in
    let graph : Program = c.args.graph.now in
    let is : program ≡ graph = c.in_ok-shown.ensures.program in
    let seen : shown.view ≡ c.args.view = c.in_ok-shown.ensures.view in
    let text : List ℕ = c.args.text.now in
    let uses : List UnsetUse = c.deref.result.now in
    let told = c.deref.ensures.value ∙ c.in_ok-uses.ensures.uses in
    let one : UnsetUse = c.in-Some.one in
    let named : first_use (filter (is_named graph text) uses) ≡ Some one = sym c.in_ok-one.ensures ∙ c.in-Some.is in
    let here : first_use (filter (is_named program text) uses) ≡ Some one =
    subst (λ (p : Program). first_use (filter (is_named p text) uses) ≡ Some one) (sym is) named in
    let reached : IsUnsetUse graph one =
    named_holds (IsUnsetUse graph) (is_named graph text) uses one named (shown_uses shown are uses told graph is) in
    let hops : List Hop = hops_at c.in_ok-paths.paths one.point one.variable in
    let witness : IsWitness (shape_of graph) (transfer_of graph Reach one.variable) one.point hops =
    one_witness graph one c.in_ok-paths.paths reached.point c.in_ok-paths.ensures in
    let points = c.points_shown-points.result in
    let first : points.first ≡ first_shown program shown.view.procedure =
    c.points_shown-points.ensures.first ∙ ap₂ (λ (p : Program) (v : View). first_shown p v.procedure) (sym is) (sym seen) in
    let end : points.end ≡ end_shown program shown.view.procedure =
    c.points_shown-points.ensures.end ∙ ap₂ (λ (p : Program) (v : View). end_shown p v.procedure) (sym is) (sym seen) in
    let shows : is_shown points ≡ is_point_shown program shown.view =
    ap₂ (λ (a b : ℕ). λ (p : ℕ). nat_le a p && nat_lt p b) first end in
    let picture : open_dot program (known_of shown) shown.view ≡ open_dot program (all_of shown are) shown.view =
    same_open program are.found.sound (known_of shown) (all_of shown are) (known_agrees shown are) shown.view.facts shown.view.procedure
    shown.view.look are.procedure (known_all shown are) in
    let more : List ℕ = path_legend shown.view.look.legend in
    let out : List ℕ = marked_dot (is_shown points) (open_dot program (known_of shown) shown.view) hops one.point more in
    subst (λ (p : Program). IsDotWithPath p c.args.view text out) is
    (subst (λ (v : View). IsDotWithPath program v text out) seen
    record {
      known = all_of shown are;
      is_known = all_of_is shown are;
      one = one;
      is_asked = sym (asked_is shown are uses told text) ∙ here;
      hops = hops;
      is_witness = subst (λ (p : Program). IsWitness (shape_of p) (transfer_of p Reach one.variable) one.point hops) (sym is) witness;
      is_text = ap₂ (λ (f : ℕ → Bool) (open_text : List ℕ). marked_dot f open_text hops one.point more) shows picture;
    })
