use Rattle.std.proofs.Common.{arith, refl}
use Rattle.std.proofs.lemmas.Grind.{common_steps}
use Rattle.tac_lines.specs.Forms.{cells_of, in_slot}
use Rattle.tac_lines.specs.code.Roles.{role_test}
use Rattle.tac_lines.proofs.lines.RangeLemmas.{no_line}
use Rattle.tac_reader.proofs.sections.SectionSteps.{parts_on}
use Rattle.tac_reader.proofs.section.section_cells.Goals as goal

pub loop-at-preserved : goal.loop-at-preserved
loop-at-preserved c = record {
  kept = grind (arith, common_steps);
  rest = λ text. parts_on text c.args.lines.tokens.now (λ statement. in_slot (role_test c.args.role) (cells_of statement))
      refl c.args.lines.ranges.now c.loop-at.at no_line _ _ _ (omega (arith, c.loop-at-test.true, c.len-at-end.ensures))
      (c.in_ok-line_cells.ensures.appended text no_line) (c.loop-at.invariant.rest text);
}
