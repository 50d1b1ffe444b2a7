use Rattle.flow_graph.specs.Problems.{may_shape}
use Rattle.flow_links.specs.Tables.LinkTables.{AreEach}
use Rattle.flow_links.proofs.links.procedures_of.Given as goal

abbrev pub invariant-loop-point : goal.invariant-loop-point
invariant-loop-point l = AreEach l.procedures.items l.point (may_shape l.fn.problem.program l.fn.problem.analysis).procedure_of
