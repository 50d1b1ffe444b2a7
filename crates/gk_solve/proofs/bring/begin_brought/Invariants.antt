use Rattle.std.proofs.Common.{◌≡◌, ◌<◌, ℕ, List, get_or, replicate}
use Rattle.gk_solve.proofs.bring.begin_brought.Given as goal

abbrev pub invariant-loop-procedure : goal.invariant-loop-procedure
invariant-loop-procedure g l = (j : ℕ) (d : List ℕ) → j < l.procedure → get_or l.brought j d ≡ replicate g.row.W 0
