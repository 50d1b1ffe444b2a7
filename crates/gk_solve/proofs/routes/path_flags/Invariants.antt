use Rattle.std.proofs.Common.{◌≡◌, ◌<◌, ◌↔◌, ℕ, length}
use Rattle.flow_links.specs.Shapes.{directed_shape}
use Rattle.summary_equations.specs.Equations.{HasFlag}
use Rattle.gk_solve.specs.Tables.Flags.{IsFlagged}
use Rattle.gk_solve.proofs.routes.path_flags.Given as goal

abbrev pub invariant-loop-point : goal.invariant-loop-point
invariant-loop-point l = record {
  count : length l.flags.items ≡ l.point;
  exact : (x : ℕ) → x < l.point → IsFlagged l.flags.items x ↔ HasFlag (directed_shape l.links) x;
}
