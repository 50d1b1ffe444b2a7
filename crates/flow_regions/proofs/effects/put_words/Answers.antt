use Rattle.std.proofs.Common.{refl, ◌∙◌, arith}
use Rattle.flow_regions.proofs.words_put.Telling.{none_told, told_more}
use Rattle.flow_regions.proofs.effects.put_words.Goals as goal

pub loop-number-init : goal.loop-number-init
loop-number-init c = record {
  count = refl;
  told = none_told c.args.problem.now c.args.does c.args.columns.now c.args.places.now _ c.args.words.now c.requires.blank;
}

pub loop-number-preserved : goal.loop-number-preserved
loop-number-preserved c = record {
  count = c.put_column.ensures.count ∙ c.loop-number.invariant.count;
  told = told_more c.args.problem.now c.args.does c.args.columns.now c.loop-number.number c.args.places.now _ c.loop-number.words c.put_column.new.words
      c.of-listed.result.now (omega (arith, c.loop-number-test.true, c.requires.few))
      (c.of-listed.ensures.low _ c.requires.touches.are_touches.low)
      (λ x there affected. c.of-listed.ensures.has x (c.requires.touches.are_touches.each x _ there (c.requires.columns _ c.loop-number-test.true)
      (c.requires.touches.are_marked _ c.loop-number-test.true) affected))
      c.loop-number.invariant.count c.loop-number.invariant.told c.put_column.ensures.put;
}
