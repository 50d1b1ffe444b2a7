use Rattle.std.proofs.Common.{◌<◌, Bool, true, false, List, sym, subst, ◌∙◌, refl, arith}
use Rattle.std.specs.List.{All, count_by}
use Rattle.std.proofs.lemmas.List.{get_or_default}
use Rattle.flow_graph.specs.Points.{point_count}
use Rattle.flow_lints.specs.declared.lint.PlacedLint.{PlacedLint}
use Rattle.lint_texts.specs.LintTexts.{is_remark_told}
use Rattle.lint_texts.specs.code.Lines.{known_in}
use Rattle.lint_texts.proofs.Texts.{all_taken, count_more}
use Rattle.lint_texts.proofs.lines.LintLines.told_count.Goals as goal
use Rattle.lint_texts.proofs.lines.LintLines.told_count.Goals.{then-tells, else-tells}

pub loop-placed-init : goal.loop-placed-init
loop-placed-init c = (refl, omega arith)

pub tells-requires-clause-point : goal.tells-requires-clause-point
tells-requires-clause-point c =
    let lints : List PlacedLint = c.as_slice-lints.result.now in
    let there : All (λ (placed : PlacedLint). placed.point < point_count c.args.self.now.graph.now) lints =
    subst (All (λ (placed : PlacedLint). placed.point < point_count c.args.self.now.graph.now)) (sym c.as_slice-lints.ensures.value)
    c.requires.placed.lints in
    there c.loop-placed.placed-index _ c.loop-placed-test.true

pub loop-placed-preserved : goal.loop-placed-preserved
loop-placed-preserved c =
    let test : PlacedLint → Bool = is_remark_told c.args.self.now.telling c.args.self.now.graph.now (known_in c.args.self.now).uses in
    let lints : List PlacedLint = c.as_slice-lints.result.now in
    elim c.if-tells.branch [
      | then-tells w ↦ (
        count_more lints c.loop-placed.placed-index test _ c.loop-placed.count c.if-tells.count true c.loop-placed-test.true
            (get_or_default lints c.loop-placed.placed-index _ _ c.loop-placed-test.true) c.loop-placed.invariant.0
            (sym w.if-tells.true ∙ c.tells.ensures) w.count-is,
        omega (arith, c.loop-placed.invariant.1, w.count-is),
      )
      | else-tells w ↦ (
        count_more lints c.loop-placed.placed-index test _ c.loop-placed.count c.if-tells.count false c.loop-placed-test.true
            (get_or_default lints c.loop-placed.placed-index _ _ c.loop-placed-test.true) c.loop-placed.invariant.0
            (sym w.if-tells.false ∙ c.tells.ensures) w.count-is,
        omega (arith, c.loop-placed.invariant.1, w.count-is),
      )
    ]

pub returns : goal.returns
returns c =
    let test : PlacedLint → Bool = is_remark_told c.args.self.now.telling c.args.self.now.graph.now (known_in c.args.self.now).uses in
    c.loop-placed.invariant.0
    ∙ all_taken c.as_slice-lints.result.now c.loop-placed.placed-index (count_by test) c.args.self.now.linted.now.lints.items
    (omega (arith, c.loop-placed-test.false)) c.as_slice-lints.ensures.value
