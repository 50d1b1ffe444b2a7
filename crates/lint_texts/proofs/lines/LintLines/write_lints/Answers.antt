use Rattle.std.proofs.Common.{◌<◌, List, sym, subst, arith}
use Rattle.std.specs.List.{All, flat_map}
use Rattle.std.proofs.lemmas.List.{get_or_default}
use Rattle.flow_graph.specs.Points.{point_count}
use Rattle.flow_lints.specs.declared.lint.PlacedLint.{PlacedLint}
use Rattle.lint_texts.specs.LintTexts.{file_text, told_lines}
use Rattle.lint_texts.specs.code.Lines.{known_in}
use Rattle.lint_texts.proofs.Texts.{all_taken, text_more}
use Rattle.text_pieces.proofs.sinks.Taking.{takes_as, takes_nothing, takes_then}
use Rattle.lint_texts.proofs.lines.LintLines.write_lints.Goals as goal

pub loop-placed-init : goal.loop-placed-init
loop-placed-init g c = takes_nothing _

pub write_told-requires-clause-point : goal.write_told-requires-clause-point
write_told-requires-clause-point g c =
    let lints : List PlacedLint = c.as_slice-lints.result.now in
    let there : All (λ (placed : PlacedLint). placed.point < point_count c.args.self.now.graph.now) lints =
    subst (All (λ (placed : PlacedLint). placed.point < point_count c.args.self.now.graph.now)) (sym c.as_slice-lints.ensures.value)
    c.requires.lines.placed.lints in
    there c.loop-placed.placed-index _ c.loop-placed-test.true

pub loop-placed-preserved : goal.loop-placed-preserved
loop-placed-preserved g c =
    let self = c.args.self.now in
    let lints : List PlacedLint = c.as_slice-lints.result.now in
    takes_as _ _ _ _ (takes_then _ _ _ _ _ c.loop-placed.invariant c.write_told.ensures)
    (text_more lints c.loop-placed.placed-index (told_lines (file_text self.file) self.telling self.graph.now (known_in self)) _ c.loop-placed-test.true
    (get_or_default lints c.loop-placed.placed-index _ _ c.loop-placed-test.true))

pub returns : goal.returns
returns g c =
    let self = c.args.self.now in
    let lints : List PlacedLint = c.as_slice-lints.result.now in
    takes_as _ _ _ _ c.loop-placed.invariant
    (all_taken lints c.loop-placed.placed-index (flat_map (told_lines (file_text self.file) self.telling self.graph.now (known_in self)))
    self.linted.now.lints.items (omega (arith, c.loop-placed-test.false)) c.as_slice-lints.ensures.value)
