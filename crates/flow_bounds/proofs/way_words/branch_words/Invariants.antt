use Rattle.flow_bounds.specs.code.Exact.{AreBranchWords}
use Rattle.flow_bounds.proofs.way_words.branch_words.Given as goal

abbrev pub invariant-loop-number : goal.invariant-loop-number
invariant-loop-number l = AreBranchWords l.frame l.tree l.number l.branches.items
