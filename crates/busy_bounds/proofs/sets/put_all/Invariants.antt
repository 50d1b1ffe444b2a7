use Rattle.busy_bounds.proofs.sets_left.Growing.{HasUpTo}
use Rattle.busy_bounds.proofs.sets.put_all.Given as goal

abbrev pub invariant-loop-place : goal.invariant-loop-place
invariant-loop-place l = HasUpTo (λ number. ⊥) l.fn.items.items l.items.items l.from l.place l.start
