use Rattle.std.proofs.Common.{◌≡◌, ◌<◌, ℕ, false, slice_index_or}
use Rattle.flow_why.proofs.scope.is_some_marked.Given as goal

abbrev pub invariant-loop-mark : goal.invariant-loop-mark
invariant-loop-mark l = (j : ℕ) → j < l.mark-index → slice_index_or l.marks j false ≡ false
