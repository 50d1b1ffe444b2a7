use Rattle.flow_regions.proofs.witnesses.Growing.{no_tree}
use Rattle.flow_regions.proofs.ways.tree_of.Goals as goal

pub loop-hung-init : goal.loop-hung-init
loop-hung-init c = rw (c.new-tree.ensures.items) (no_tree c.args.links.now c.args.ways.now)
