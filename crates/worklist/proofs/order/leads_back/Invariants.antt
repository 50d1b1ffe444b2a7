use Rattle.std.proofs.Common.{◌≡◌, ◌<◌, ℕ, length, get_or}
use Rattle.worklist.proofs.order.leads_back.Given as goal

abbrev pub invariant-loop-from : goal.invariant-loop-from
invariant-loop-from l = (k : ℕ) → k < l.from → (get_or l.there k 0 < length l.back) × (get_or l.back (get_or l.there k 0) 0 ≡ k)
