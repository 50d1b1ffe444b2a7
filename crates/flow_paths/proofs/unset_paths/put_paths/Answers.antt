use Rattle.std.proofs.Common.{◌≡◌, ◌∙◌, ℕ, List, sym, ap}
use Rattle.std.proofs.lemmas.List.Elements.{All-get_or}
use Rattle.gen_kill.specs.Selections.{Selection}
use Rattle.flow_reports.specs.declared.unset.UnsetUse.{UnsetUse}
use Rattle.flow_paths.specs.code.UnsetPaths.{IsUnsetUse, IsWitnessed, use_at, uses_in}
use Rattle.flow_paths.specs.declared.unset_path.UnsetPath.{UnsetPath}
use Rattle.flow_paths.proofs.lists.Placed.{no_use}
use Rattle.flow_paths.proofs.lists.Putting.{put_more, witnessed_more}
use Rattle.flow_paths.proofs.lists.Searched.{number_at, reaches_by, witness_by}
use Rattle.flow_paths.proofs.unset_paths.put_paths.Goals as goal

pub path_of-requires-clause-reaches : goal.path_of-requires-clause-reaches
path_of-requires-clause-reaches c =
    let form : Selection = c.args.why.now.form in
    let uses : List UnsetUse = c.args.uses.now in
    let number : ℕ = c.index-number.result.now in
    let at = number_at uses _ c.args.by_variable.now.starts.items c.args.by_variable.now.places.items c.args.variable c.loop-place.place number
    c.index-first.result.now c.index-end.result.now c.requires.groups c.requires.variable c.index-first.ensures c.index-end.ensures
    c.loop-place.auto.place c.loop-place-test.true c.index-number.ensures in
    let named : IsUnsetUse form.program (use_at uses number) = All-get_or (IsUnsetUse form.program) uses number no_use at.0 c.requires.uses in
    reaches_by form c.args.why.now.column (use_at uses number).variable (use_at uses number).point c.requires.form
    (c.requires.column ∙ sym at.1) named.reaches

pub loop-place-preserved : goal.loop-place-preserved
loop-place-preserved c =
    let form : Selection = c.args.why.now.form in
    let uses : List UnsetUse = c.args.uses.now in
    let number : ℕ = c.index-number.result.now in
    let path : UnsetPath = c.in_ok-path.path in
    let at = number_at uses _ c.args.by_variable.now.starts.items c.args.by_variable.now.places.items c.args.variable c.loop-place.place number
    c.index-first.result.now c.index-end.result.now c.requires.groups c.requires.variable c.index-first.ensures c.index-end.ensures
    c.loop-place.auto.place c.loop-place-test.true c.index-number.ensures in
    let mine : path.variable ≡ c.args.variable = ap (λ (u : UnsetUse). u.variable) c.in_ok-path.ensures.of ∙ at.1 in
    let witness : IsWitnessed form.program path =
    witness_by form c.args.why.now.column path.variable path.point path.hops.items c.requires.form (c.requires.column ∙ sym mine)
    c.in_ok-path.ensures.witness in (
      put_more (uses_in c.args.paths.now.items) uses c.loop-place.paths.items c.push.new.self.items path c.args.by_variable.now.places.items
          c.index-first.result.now c.loop-place.place c.loop-place.auto.place c.loop-place.invariant.0 c.in_ok-push.ensures.items
          (c.in_ok-path.ensures.of ∙ ap (use_at uses) at.2),
      λ all. witnessed_more form.program c.loop-place.paths.items c.push.new.self.items path c.in_ok-push.ensures.items
          (c.loop-place.invariant.1 all) witness,
    )
