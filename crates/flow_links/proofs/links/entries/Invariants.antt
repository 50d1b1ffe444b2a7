use Rattle.flow_graph.specs.Problems.{may_shape}
use Rattle.flow_links.specs.Tables.LinkTables.{AreEach}
use Rattle.flow_links.proofs.links.entries.Given as goal

abbrev pub invariant-loop-procedure : goal.invariant-loop-procedure
invariant-loop-procedure l = AreEach l.entries.items l.procedure (may_shape l.fn.problem.program l.fn.problem.analysis).entry
