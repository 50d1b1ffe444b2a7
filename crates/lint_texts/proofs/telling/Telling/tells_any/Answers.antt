use Rattle.std.proofs.Common.{◌<◌, Bool, List, sym, ap, subst, ◌∙◌, arith}
use Rattle.std.specs.List.{All, list_any}
use Rattle.std.proofs.lemmas.List.{drop_all, get_or_default}
use Rattle.flow_graph.specs.Points.{point_count}
use Rattle.flow_lints.specs.declared.lint.PlacedLint.{PlacedLint}
use Rattle.lint_texts.specs.LintTexts.{is_told}
use Rattle.lint_texts.proofs.Placed.{are_placed}
use Rattle.lint_texts.proofs.Texts.{any_behind, any_here}
use Rattle.lint_texts.proofs.telling.Telling.tells_any.Goals as goal

pub tells-requires : goal.tells-requires
tells-requires c =
    let lints : List PlacedLint = c.as_slice-lints.result.now in
    let there : All (λ (placed : PlacedLint). placed.point < point_count c.args.graph.now) lints =
    subst (All (λ (placed : PlacedLint). placed.point < point_count c.args.graph.now)) (sym c.as_slice-lints.ensures.value)
    (are_placed c.args.graph.now c.args.linted.now c.requires).lints in
    there c.loop-placed.placed-index _ c.loop-placed-test.true

pub returns-then-tells : goal.returns-then-tells
returns-then-tells c =
    let test : PlacedLint → Bool = is_told c.args.self c.args.graph.now in
    let lints : List PlacedLint = c.as_slice-lints.result.now in
    sym
    (any_here lints c.loop-placed.placed-index test _ c.loop-placed-test.true
    (get_or_default lints c.loop-placed.placed-index _ _ c.loop-placed-test.true) (sym c.tells.ensures ∙ c.if-tells.true))
    ∙ c.loop-placed.invariant ∙ ap (list_any test) c.as_slice-lints.ensures.value

pub loop-placed-preserved : goal.loop-placed-preserved
loop-placed-preserved c =
    let test : PlacedLint → Bool = is_told c.args.self c.args.graph.now in
    let lints : List PlacedLint = c.as_slice-lints.result.now in
    sym
    (any_behind lints c.loop-placed.placed-index test _ c.loop-placed-test.true
    (get_or_default lints c.loop-placed.placed-index _ _ c.loop-placed-test.true) (sym c.tells.ensures ∙ c.if-tells.false))
    ∙ c.loop-placed.invariant

pub returns : goal.returns
returns c =
    let test : PlacedLint → Bool = is_told c.args.self c.args.graph.now in
    let lints : List PlacedLint = c.as_slice-lints.result.now in
    sym (ap (list_any test) (drop_all c.loop-placed.placed-index lints (omega (arith, c.loop-placed-test.false))))
    ∙ c.loop-placed.invariant ∙ ap (list_any test) c.as_slice-lints.ensures.value
