use Rattle.std.proofs.Common.{[]}
use Rattle.flow_graph.specs.code.NumberLists.{AreLists, contents}
use Rattle.doubt_origins.proofs.sources.empty_lists.Given as goal

abbrev pub invariant-loop : goal.invariant-loop
invariant-loop l = AreLists (contents l.lists.items) l.counter (λ _. [])
