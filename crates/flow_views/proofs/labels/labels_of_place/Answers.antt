use Rattle.std.proofs.Common.{◌≤◌, List, length, arith, rules, ◌==◌}
use Rattle.std.proofs.lemmas.Bool.{eq-eqb, ne_eqb}
use Rattle.tac_program.specs.declared.program.Label.{Label}
use Rattle.flow_views.proofs.texts.Runs.{run_passes, ordered}
use Rattle.flow_views.proofs.labels.labels_of_place.Goals as goal

pub slice_bounds-result-count : goal.slice_bounds-result-count
slice_bounds-result-count c =
    ordered c.args.labels.now c.args.place c.labels_before-first.result c.labels_before-end.result c.labels_before-first.ensures.within
    c.labels_before-first.ensures.before c.labels_before-end.ensures.behind

pub slice_bounds-result-start : goal.slice_bounds-result-start
slice_bounds-result-start c =
    let within : c.labels_before-end.result ≤ length c.args.labels.now = c.labels_before-end.ensures.within in
    let order : c.labels_before-first.result ≤ c.labels_before-end.result =
    ordered c.args.labels.now c.args.place c.labels_before-first.result c.labels_before-end.result c.labels_before-first.ensures.within
    c.labels_before-first.ensures.before c.labels_before-end.ensures.behind in
    search rules

pub returns : goal.returns
returns c =
    let labels : List Label = c.args.labels.now in
    let first = c.labels_before-first.ensures in
    let end = c.labels_before-end.ensures in
    run_passes (λ (l : Label). l.place == c.args.place) labels c.labels_before-first.result c.labels_before-end.result
    (ordered labels c.args.place c.labels_before-first.result c.labels_before-end.result first.within first.before end.behind)
    end.within
    (λ k d low. ne_eqb _ _ (λ same. omega (arith, first.before k d low, same)))
    (λ k d low high. eq-eqb _ _ (omega (arith, first.behind k d low (omega (arith, high, end.within)), end.before k d high)))
    (λ k d low high. ne_eqb _ _ (λ same. omega (arith, end.behind k d low high, same)))
