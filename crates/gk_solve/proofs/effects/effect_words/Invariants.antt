use Rattle.std.proofs.Common.{◌≡◌, ◌<◌, ◌%◌, ℕ, false, length, get_or}
use Rattle.bit_rows.specs.Words.{has_bit}
use Rattle.gk_solve.specs.Tables.Groups.{IsIdle}
use Rattle.gk_solve.proofs.effects.effect_words.Given as goal

abbrev pub invariant-loop-point : goal.invariant-loop-point
invariant-loop-point l = record {
  count : length l.words.items ≡ l.point;
  idle : (point word : ℕ) → point < l.point → has_bit (get_or l.words.items point 0) (word % 64) ≡ false → IsIdle l.problem point word;
}
