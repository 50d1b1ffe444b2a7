use Rattle.std.proofs.Common.{◌≡◌, ◌≤◌, take, sum_by}
use Rattle.tac_program.specs.Limits.{most_points}
use Rattle.flow_graph.specs.Points.{size_of}
use Rattle.flow_graph.proofs.points.has_few_points.Given as goal

abbrev pub invariant-loop-procedure : goal.invariant-loop-procedure
invariant-loop-procedure l = record {
  counted : l.count ≡ sum_by size_of (take l.procedure-index l.procs);
  most : l.most ≡ most_points l.fn.limits;
  few : l.count ≤ l.most;
  all : l.procs ≡ l.fn.program.procedures;
}
