use Rattle.std.proofs.Common.{◌∙◌, ◌++◌, List, ℕ, ap}
use Rattle.std.proofs.lemmas.List.{get_or_default}
use Rattle.flow_graph.specs.declared.analysis.Analysis.{Analysis}
use Rattle.flow_views.specs.Views.{analysis_name}
use Rattle.text_pieces.specs.Strings.{quoted}
use Rattle.flow_steps.proofs.told.Pushes.{next_told}
use Rattle.flow_steps.proofs.step_text.push_names.Goals as goal

pub loop-place-preserved : goal.loop-place-preserved
loop-place-preserved c =
    next_told (λ (analysis : Analysis). quoted (analysis_name analysis)) c.args.analyses.now c.loop-place.place _ c.args.text.now.items
    c.loop-place.text.items c.push_comma_if.new.text.items c.push_quoted.new.text.items c.loop-place-test.true
    (get_or_default c.args.analyses.now c.loop-place.place _ _ c.loop-place-test.true) c.loop-place.invariant c.in_ok-push_comma_if.ensures
    (c.in_ok-push_quoted.ensures ∙ ap (λ (name : List ℕ). c.push_comma_if.new.text.items ++ quoted name) c.analysis_name.ensures)
