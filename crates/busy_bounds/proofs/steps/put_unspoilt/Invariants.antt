use Rattle.std.proofs.Common.{◌≡◌, true, length}
use Rattle.gen_kill.specs.Selections.{column_gens}
use Rattle.busy_bounds.proofs.sets_left.Growing.{HasUpTo}
use Rattle.busy_bounds.proofs.steps.put_unspoilt.Given as goal

abbrev pub invariant-loop-place : goal.invariant-loop-place
invariant-loop-place l =
    HasUpTo (λ number. column_gens l.problem l.point number ≡ true) l.fn.items.items l.items.items l.from l.place (length l.fn.items.items)
