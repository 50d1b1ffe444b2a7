use Rattle.std.proofs.Common.{◌≡◌, ◌<◌, ◌≤◌, ◌+◌, ◌*◌, ◌&&◌, ◌||◌, not, ℕ, length, get_or}
use Rattle.bit_rows.specs.Words.{has_bit}
use Rattle.gk_solve.specs.Tables.Words.{place_gens, place_kills}
use Rattle.gk_solve.proofs.effects.across_words.Given as goal

abbrev pub invariant-loop-w : goal.invariant-loop-w
invariant-loop-w g l = record {
  preserved_count : length l.preserved ≡ g.row.W;
  generated_count : length l.generated ≡ g.row.W;
  preserved : (w k : ℕ) → w < l.w → k < 64 → has_bit (get_or l.preserved w 0) k
      ≡ (has_bit (get_or l.fn.before.preserved w 0) k && not (place_kills l.frame.problem.now l.point (64 * (l.frame.first + w) + k)));
  generated : (w k : ℕ) → w < l.w → k < 64 → has_bit (get_or l.generated w 0) k
      ≡ (place_gens l.frame.problem.now l.point (64 * (l.frame.first + w) + k)
      || (has_bit (get_or l.fn.before.generated w 0) k && not (place_kills l.frame.problem.now l.point (64 * (l.frame.first + w) + k))));
  rest : (w : ℕ) → l.w ≤ w → (get_or l.preserved w 0 ≡ get_or l.fn.before.preserved w 0) × (get_or l.generated w 0 ≡ get_or l.fn.before.generated w 0);
}
