use Rattle.flow_regions.proofs.witnesses.Growing.{no_ways}
use Rattle.flow_regions.proofs.ways.list_of.Goals as goal

pub loop-point-init : goal.loop-point-init
loop-point-init c = rw (c.new-ways.ensures.items) (no_ways c.args.links.now)
