-- None of the procedures so far has the name.
use Rattle.std.proofs.Common.{ℕ, ◌<◌}
use Rattle.view_commands.specs.Views.{HasProcedure}
use Rattle.view_commands.proofs.views.procedure_named.Given as goal

abbrev pub invariant-loop-number : goal.invariant-loop-number
invariant-loop-number l = (k : ℕ) → k < l.number → ¬ (HasProcedure l.program l.name k)
