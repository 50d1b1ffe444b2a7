use Rattle.std.proofs.Common.{◌≡◌, ◌-◌, ℕ, Bool, length, take}
use Rattle.flow_rounds.specs.Rounds.{after_round}
use Rattle.flow_rounds.specs.Steps.{problem_at}
use Rattle.flow_rounds.specs.code.Frames.{TellsColumn, iteration_of}
use Rattle.flow_rounds.proofs.columns.next_column.Given as goal

abbrev pub invariant-loop-place : goal.invariant-loop-place
invariant-loop-place l =
    (length l.bits.items ≡ l.frame.points.end - l.frame.points.first)
    × ((set : ℕ → Bool) → TellsColumn l.frame.points set l.column
    → TellsColumn l.frame.points (after_round (problem_at (iteration_of l.frame) l.bit) (take l.place l.frame.order) set) l.bits.items)
