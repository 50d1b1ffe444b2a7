use Rattle.flow_regions.specs.code.Ways.{IsTree}
use Rattle.flow_regions.proofs.ways.tree_of.Given as goal

abbrev pub invariant-loop-hung : goal.invariant-loop-hung
invariant-loop-hung l = IsTree l.links l.ways l.tree.items
