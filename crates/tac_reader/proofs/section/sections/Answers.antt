use Rattle.std.proofs.Common.{◌∙◌, ap, arith, sym, []}
use Rattle.tac_lines.specs.Forms.{has_form, proc_form}
use Rattle.tac_reader.specs.code.SectionViews.{sections_view}
use Rattle.tac_lines.specs.code.Views.{tokens_view}
use Rattle.tac_lines.proofs.lines.RangeLemmas.{no_line}
use Rattle.tac_reader.proofs.sections.SectionSteps.{proc_two, sections_here, sections_past}
use Rattle.tac_reader.proofs.section.sections.Goals as goal

pub bounds-line-1 : goal.bounds-line-1
bounds-line-1 c = proc_two [] _ (c.is_proc.ensures [] ∙ c.if-is_proc.true)

pub loop-at-preserved : goal.loop-at-preserved
loop-at-preserved c = record {
  within = omega (arith, c.loop-at-test.true, c.len.ensures);
  rest = λ text. sections_past text c.args.lines.tokens.now c.args.lines.ranges.now c.loop-at.at no_line (sections_view text c.loop-at.found.items)
      _ (omega (arith, c.loop-at-test.true, c.len.ensures)) (ap (λ ts. has_form proc_form (tokens_view text ts)) (sym (c.line.ensures no_line))
      ∙ c.is_proc.ensures text ∙ c.if-is_proc.false) (c.loop-at.invariant.rest text);
}

pub loop-at-preserved-in-Continue-1 : goal.loop-at-preserved-in-Continue-1
loop-at-preserved-in-Continue-1 c = record {
  within = omega (arith, c.loop-at-test.true, c.len.ensures);
  rest = λ text. sections_here text c.args.lines.tokens.now c.args.lines.ranges.now c.loop-at.at no_line c.line.result.tokens.now
      _ c.loop-at.found.items _ c.inner_lines.result _ (omega (arith, c.loop-at-test.true, c.len.ensures)) (c.line.ensures no_line)
      (c.is_proc.ensures text ∙ c.if-is_proc.true)
      c.in_ok-push.ensures.items (c.inner_lines.ensures text) (c.loop-at.invariant.rest text);
}
