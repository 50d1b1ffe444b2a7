use Rattle.std.proofs.Common.{◌≡◌, ◌<◌, ◌↔◌, ℕ, true, get_or}
use Rattle.bit_rows.specs.Words.{has_bit}
use Rattle.gk_solve.specs.Tables.Groups.{generated_word, preserved_word}
use Rattle.gk_solve.proofs.visits.Callees.{IsFoundBelow}
use Rattle.gk_solve.proofs.group.called.Given as goal

abbrev pub invariant-loop-call : goal.invariant-loop-call
invariant-loop-call g l = record {
  preserved : (w k : ℕ) → w < g.row.W
      → (has_bit (get_or l.all.preserved w 0) k ≡ true) ↔ IsFoundBelow l.frame.paths.now (preserved_word l.table w) l.calls l.call-index k;
  generated : (w k : ℕ) → w < g.row.W
      → (has_bit (get_or l.all.generated w 0) k ≡ true) ↔ IsFoundBelow l.frame.paths.now (generated_word l.table w) l.calls l.call-index k;
}
