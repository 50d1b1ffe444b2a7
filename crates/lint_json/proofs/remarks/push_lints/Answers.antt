use Rattle.std.proofs.Common.{◌<◌, List, ℕ, ◌++◌, flat_map, sym, subst, ap, ◌∙◌, arith, append-nil}
use Rattle.std.specs.List.{All}
use Rattle.std.proofs.Math.Seq.{take-length}
use Rattle.std.proofs.lemmas.List.{get_or_default}
use Rattle.flow_graph.specs.Points.{point_count}
use Rattle.flow_lints.specs.declared.lint.PlacedLint.{PlacedLint}
use Rattle.lint_json.specs.LintJson.{told_lines}
use Rattle.lint_json.proofs.Elements.{put_all, put_more}
use Rattle.lint_texts.specs.code.Lines.{known_in}
use Rattle.lint_json.proofs.remarks.push_lints.Goals as goal

pub loop-placed-init : goal.loop-placed-init
loop-placed-init c = sym (append-nil c.args.text.now.items)

pub push_told-requires-clause-point : goal.push_told-requires-clause-point
push_told-requires-clause-point c =
    let lints : List PlacedLint = c.as_slice-lints.result.now in
    let there : All (λ (placed : PlacedLint). placed.point < point_count c.args.lines.now.graph.now) lints =
    subst (All (λ (placed : PlacedLint). placed.point < point_count c.args.lines.now.graph.now)) (sym c.as_slice-lints.ensures.value)
    c.requires.placed.lints in
    there c.loop-placed.placed-index _ c.loop-placed-test.true

pub loop-placed-preserved : goal.loop-placed-preserved
loop-placed-preserved c =
    let lines = c.args.lines.now in
    let lints : List PlacedLint = c.as_slice-lints.result.now in
    put_more lints c.loop-placed.placed-index
    (told_lines c.args.name.now lines.file.text.now lines.telling lines.graph.now (known_in lines)) _ c.args.text.now.items c.loop-placed.text.items _
    c.loop-placed-test.true (get_or_default lints c.loop-placed.placed-index _ _ c.loop-placed-test.true) c.loop-placed.invariant
    c.in_ok-push_told.ensures

pub returns : goal.returns
returns c =
    let lines = c.args.lines.now in
    put_all c.as_slice-lints.result.now lines.linted.now.lints.items c.loop-placed.placed-index
    (told_lines c.args.name.now lines.file.text.now lines.telling lines.graph.now (known_in lines)) c.args.text.now.items c.loop-placed.text.items
    (omega (arith, c.loop-placed-test.false)) c.as_slice-lints.ensures.value c.loop-placed.invariant
