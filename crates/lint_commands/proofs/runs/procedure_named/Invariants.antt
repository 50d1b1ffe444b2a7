-- None of the procedures so far has the name.
use Rattle.std.proofs.Common.{ℕ, ◌<◌}
use Rattle.lint_commands.specs.Runs.{HasProcedure}
use Rattle.lint_commands.proofs.runs.procedure_named.Given as goal

abbrev pub invariant-loop-number : goal.invariant-loop-number
invariant-loop-number l = (k : ℕ) → k < l.number → ¬ (HasProcedure l.program l.name k)
