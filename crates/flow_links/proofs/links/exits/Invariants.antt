use Rattle.flow_graph.specs.Problems.{may_shape}
use Rattle.flow_links.specs.Tables.LinkTables.{AreEach}
use Rattle.flow_links.proofs.links.exits.Given as goal

abbrev pub invariant-loop-procedure : goal.invariant-loop-procedure
invariant-loop-procedure l = AreEach l.exits.items l.procedure (may_shape l.fn.problem.program l.fn.problem.analysis).exit
