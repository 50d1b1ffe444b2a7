use Rattle.std.proofs.Common.{◌≡◌, ◌<◌, ℕ, take, sum_by, length, get_or}
use Rattle.flow_graph.specs.Points.{size_of, procedure_at}
use Rattle.flow_graph.proofs.points.point_procedures.Given as goal

abbrev pub invariant-loop-procedure : goal.invariant-loop-procedure
invariant-loop-procedure l = record {
  numbered : l.number ≡ l.procedure-index;
  all : l.procs ≡ l.fn.program.procedures;
  so_many : length l.procedures.items ≡ sum_by size_of (take l.procedure-index l.procs);
  each : (k d : ℕ) → k < length l.procedures.items → get_or l.procedures.items k d ≡ procedure_at l.fn.program k;
}
