use Rattle.std.proofs.Common.{◌≡◌, ◌<◌, ℕ, take, sum_by, length, get_or}
use Rattle.flow_graph.specs.Points.{size_of, first_point}
use Rattle.flow_graph.proofs.points.first_points.Given as goal

abbrev pub invariant-loop-procedure : goal.invariant-loop-procedure
invariant-loop-procedure l = record {
  counted : l.count ≡ sum_by size_of (take l.procedure-index l.procs);
  all : l.procs ≡ l.fn.program.procedures;
  so_many : length l.firsts.items ≡ l.procedure-index;
  each : (k d : ℕ) → k < l.procedure-index → get_or l.firsts.items k d ≡ first_point l.fn.program k;
}
