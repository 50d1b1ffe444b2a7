use Rattle.std.proofs.Common.{◌∙◌, refl}
use Rattle.flow_bounds.proofs.paths.Words.{branch_entered}
use Rattle.flow_bounds.proofs.way_words.put_branches.Goals as goal

pub loop-number-init : goal.loop-number-init
loop-number-init c = record { count = refl; each = c.requires.before }

pub put_hung-requires-clause-entered : goal.put_hung-requires-clause-entered
put_hung-requires-clause-entered c =
    branch_entered c.args.frame.now c.requires.frame c.args.ways.now c.requires.ways c.args.tree.now c.requires.tree c.loop-number.number
    c.loop-number-test.true

pub put_hung-requires-clause-word : goal.put_hung-requires-clause-word
put_hung-requires-clause-word c = c.requires.branches.each c.loop-number.number c.loop-number-test.true

pub put_hung-requires-clause-before : goal.put_hung-requires-clause-before
put_hung-requires-clause-before c = c.loop-number.invariant.each

pub loop-number-preserved : goal.loop-number-preserved
loop-number-preserved c = record {
  count = c.put_hung.ensures.count ∙ c.loop-number.invariant.count;
  each = c.put_hung.ensures.each;
}
