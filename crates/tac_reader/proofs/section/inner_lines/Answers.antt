use Rattle.std.proofs.Common.{◌∙◌, arith, map, ap, sym}
use Rattle.std.specs.List.{prefix_len}
use Rattle.std.proofs.lemmas.List.{drop_all}
use Rattle.tac_lines.specs.Forms.{is_inner}
use Rattle.tac_lines.specs.code.Ranges.{range_view}
use Rattle.tac_lines.specs.code.Views.{tokens_view}
use Rattle.tac_lines.proofs.lines.RangeLemmas.{no_line}
use Rattle.tac_reader.proofs.sections.SectionSteps.{run_on, run_stops, run_is}
use Rattle.tac_reader.proofs.section.inner_lines.Goals as goal
use Rattle.tac_reader.proofs.section.inner_lines.Goals.{then-loop-at-test+else-is_inner, else-loop-at-test}

pub loop-at-preserved : goal.loop-at-preserved
loop-at-preserved c = record {
  order = omega (arith, c.loop-at.invariant.order);
  within = omega arith;
  run = λ text. run_on is_inner (range_view text c.args.lines.tokens.now) c.args.lines.ranges.now c.loop-at.at no_line
      _ (omega (arith, c.loop-at-test.true, c.len.ensures)) (ap (λ ts. is_inner (tokens_view text ts)) (sym (c.line.ensures no_line))
      ∙ c.is_inner.ensures text ∙ c.if-is_inner.true) (c.loop-at.invariant.run text);
}

pub returns : goal.returns
returns c text =
    let view = range_view text c.args.lines.tokens.now in
    let ranges = c.args.lines.ranges.now in
    (λ i. map (range_view text (c.part.ensures.tokens i)) (c.part.ensures.lines i))
    ∙ run_is is_inner view ranges c.args.first c.loop-at.at c.loop-at.invariant.order (c.loop-at.invariant.run text)
    (elim c.loop-at-test.branch [
      | then-loop-at-test+else-is_inner w ↦ run_stops is_inner view ranges c.loop-at.at no_line (omega (arith, w.loop-at-test.true, c.len.ensures))
          (ap (λ ts. is_inner (tokens_view text ts)) (sym (w.line.ensures no_line)) ∙ w.is_inner.ensures text ∙ w.if-is_inner.false)
      | else-loop-at-test w ↦
          ap (λ xs. prefix_len is_inner (map view xs)) (drop_all c.loop-at.at ranges (omega (arith, w.loop-at-test.false, c.len.ensures)))
    ])
