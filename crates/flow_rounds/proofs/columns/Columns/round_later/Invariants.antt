use Rattle.std.proofs.Common.{◌≡◌, ◌<◌, [], ℕ, Bool, length, slice_index_or}
use Rattle.flow_rounds.specs.Rounds.{after_round}
use Rattle.flow_rounds.specs.Steps.{problem_at}
use Rattle.flow_rounds.specs.code.Frames.{TellsColumn, iteration_of}
use Rattle.flow_rounds.proofs.columns.Columns.round_later.Given as goal

abbrev pub invariant-loop-bit : goal.invariant-loop-bit
invariant-loop-bit l =
    (length l.columns.items ≡ l.bit)
    × ((bit : ℕ) → bit < l.bit → (set : ℕ → Bool) → TellsColumn l.frame.points set (slice_index_or l.self bit [])
    → TellsColumn l.frame.points (after_round (problem_at (iteration_of l.frame) bit) l.frame.order set) (slice_index_or l.columns.items bit []))
