use Rattle.std.proofs.Common.{◌≡◌, ◌+◌, ◌*◌, ◌<◌, ◌&&◌, ℕ, nat_lt}
use Rattle.bit_rows.specs.Words.{has_bit}
use Rattle.gen_kill.specs.Selections.{column_boundary, column_count}
use Rattle.gen_kill.proofs.problem.Problem.boundary_word.Given as goal

abbrev pub invariant-loop-place : goal.invariant-loop-place
invariant-loop-place l = (k : ℕ) → k < 64 → has_bit l.result k
    ≡ (nat_lt k l.place && (nat_lt (64 * l.word + k) (column_count l.self) && column_boundary l.self (64 * l.word + k)))
