use Rattle.std.proofs.Common.{◌≡◌, ◌<◌, ℕ, length}
use Rattle.lint_texts.specs.code.Uses.{IsWayOf, ways_in}
use Rattle.lint_texts.proofs.ways.all_ways.Given as goal

abbrev pub invariant-loop-variable : goal.invariant-loop-variable
invariant-loop-variable l =
    (length l.all.items ≡ l.variable)
    × ((variable : ℕ) → variable < l.variable → IsWayOf l.graph l.uses variable (ways_in l.all.items variable))
