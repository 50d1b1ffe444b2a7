use Rattle.std.proofs.Common.{◌∙◌, ◌++◌, ap, arith}
use Rattle.std.proofs.lemmas.Grind.{common_steps}
use Rattle.tac_lines.specs.Forms.{labels_of}
use Rattle.tac_lines.specs.code.Views.{tokens_view}
use Rattle.tac_lines.proofs.lines.RangeLemmas.{no_line}
use Rattle.tac_reader.proofs.sections.SectionSteps.{each_line_on}
use Rattle.tac_reader.proofs.section.labels.Goals as goal

pub loop-at-preserved : goal.loop-at-preserved
loop-at-preserved c = record {
  kept = grind (arith, common_steps);
  rest = λ text. each_line_on text c.args.lines.tokens.now labels_of c.args.lines.ranges.now c.loop-at.at no_line
      _ _ _ (omega (arith, c.loop-at-test.true, c.len-at-end.ensures))
      (c.in_ok-line_labels.ensures.appended text ∙ ap (λ ts. tokens_view text c.loop-at.found.items ++ labels_of (tokens_view text ts))
      (c.line.ensures no_line)) (c.loop-at.invariant.rest text);
}
