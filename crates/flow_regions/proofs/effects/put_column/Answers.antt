use Rattle.std.proofs.Common.{◌∙◌}
use Rattle.flow_regions.proofs.words_put.Putting.{put_more}
use Rattle.flow_regions.proofs.effects.put_column.Goals as goal

pub loop-point-preserved : goal.loop-point-preserved
loop-point-preserved c = record {
  count = c.put_bit.ensures.count ∙ c.loop-point.invariant.count;
  put = put_more c.args.problem.now c.args.does c.args.member.column c.args.member.bit c.args.listed.now c.loop-point.point-index c.args.places.now
      c.args.words.now c.loop-point.words c.put_bit.new.words c.has-wanted.result c.requires.bit c.loop-point.invariant.count c.has-wanted.ensures
      c.put_bit.ensures.bits c.put_bit.ensures.past c.loop-point.invariant.put;
}
