use Rattle.std.proofs.Common.{◌≡◌, ◌+◌, ◌<◌, [], ℕ, Bool, List, length, slice_index_or, subst, sym}
use Rattle.flow_rounds.specs.Rounds.{at_first}
use Rattle.flow_rounds.specs.Steps.{problem_at}
use Rattle.flow_rounds.specs.code.Frames.{TellsColumn, iteration_of}
use Rattle.flow_rounds.proofs.lists.Columns.{each_more}
use Rattle.flow_rounds.proofs.columns.Columns.first.Goals as goal

pub loop-bit-preserved : goal.loop-bit-preserved
loop-bit-preserved c =
    let P : ℕ → List Bool → Type 0 = (λ bit column.
    TellsColumn c.args.frame.now.points (at_first (problem_at (iteration_of c.args.frame.now) bit) c.args.frame.now.procedure) column) in
    subst (λ (columns : List (List Bool)). (length columns ≡ c.loop-bit.bit + 1) × ((bit : ℕ) → bit < c.loop-bit.bit + 1
    → TellsColumn c.args.frame.now.points (at_first (problem_at (iteration_of c.args.frame.now) bit) c.args.frame.now.procedure)
    (slice_index_or columns bit []))) (sym c.in_ok-push.ensures.items)
    (each_more P c.loop-bit.columns.items _ c.loop-bit.bit c.loop-bit.invariant.0 c.loop-bit.invariant.1 c.in_ok-first_column.ensures)
