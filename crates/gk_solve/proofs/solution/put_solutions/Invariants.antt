use Rattle.std.proofs.Common.{◌≡◌, ◌<◌, ◌≤◌, ◌+◌, ◌*◌, ◌↔◌, ℕ}
use Rattle.summary_equations.specs.Equations.{IsInSolution}
use Rattle.gk_solve.specs.Tables.Groups.{group_of, generated_word, summary_at}
use Rattle.gk_solve.specs.Tables.Words.{HasBit}
use Rattle.gk_solve.proofs.solution.put_solutions.Given as goal

abbrev pub invariant-loop-point : goal.invariant-loop-point
invariant-loop-point g l = record {
  done : (w x k : ℕ) → w < g.row.W → x < l.point → k < 64
      → HasBit (generated_word l.table w) x k ↔ ((l.lo ≤ 64 * (l.frame.first + w) + k) × (64 * (l.frame.first + w) + k < l.hi)
      × IsInSolution (group_of l.frame g.row.W).shape ((group_of l.frame g.row.W).transfer w k) x);
  rest : (x : ℕ) → l.point ≤ x → summary_at l.table x ≡ summary_at l.fn.table x;
}
