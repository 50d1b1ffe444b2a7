use Rattle.flow_bounds.specs.code.Exact.{AreWayWords}
use Rattle.flow_bounds.proofs.way_words.way_words.Given as goal

abbrev pub invariant-loop-number : goal.invariant-loop-number
invariant-loop-number l = AreWayWords l.frame l.ways l.number l.words.kept.items l.words.made.items
