use Rattle.flow_graph.specs.code.NumberLists.{AreLists, contents}
use Rattle.flow_graph.specs.Points.{point_count}
use Rattle.flow_graph.proofs.edges.SourceLemmas.{sources_before}
use Rattle.doubt_origins.proofs.sources.sources.Given as goal

abbrev pub invariant-loop-point : goal.invariant-loop-point
invariant-loop-point l = AreLists (contents l.lists.items) (point_count l.fn.graph) (sources_before l.fn.graph l.point)
