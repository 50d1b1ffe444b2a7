use Rattle.std.proofs.Common.{◌≡◌, ◌<◌, [], ℕ, length, slice_index_or}
use Rattle.flow_rounds.specs.Rounds.{at_first}
use Rattle.flow_rounds.specs.Steps.{problem_at}
use Rattle.flow_rounds.specs.code.Frames.{TellsColumn, iteration_of}
use Rattle.flow_rounds.proofs.columns.Columns.first.Given as goal

abbrev pub invariant-loop-bit : goal.invariant-loop-bit
invariant-loop-bit l =
    (length l.columns.items ≡ l.bit)
    × ((bit : ℕ) → bit < l.bit → TellsColumn l.frame.points (at_first (problem_at (iteration_of l.frame) bit) l.frame.procedure)
    (slice_index_or l.columns.items bit []))
