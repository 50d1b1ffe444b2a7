use Rattle.std.proofs.Common.{◌≡◌, ◌-◌, ℕ, List, All, subst, sym, slice_index, slice_set}
use Rattle.flow_rounds.specs.Rounds.{with_point}
use Rattle.flow_rounds.specs.Steps.{problem_at}
use Rattle.flow_rounds.specs.code.Frames.{IsWithin, TellsColumn, iteration_of}
use Rattle.flow_rounds.proofs.lists.Joined.{put_bit}
use Rattle.flow_rounds.proofs.columns.compute_bit.Goals as goal

pub returns-clause-computed : goal.returns-clause-computed
returns-clause-computed c set tells =
    let at : slice_index c.order.result.now c.args.place - c.points-first.result.first ≡ slice_index c.args.frame.now.order c.args.place -
    c.args.frame.now.points.first
    = (λ i. slice_index (c.order.ensures.order i) c.args.place - (c.points-first.ensures.points i).first) in
    subst (λ (k : ℕ). TellsColumn c.args.frame.now.points
    (with_point (problem_at (iteration_of c.args.frame.now) c.args.bit) set (slice_index c.args.frame.now.order c.args.place))
    (slice_set c.args.column.now.items k c.joined-has.result)) (sym at)
    (put_bit c.args.frame.now c.args.column.now.items c.args.bit (slice_index c.args.frame.now.order c.args.place) set tells c.joined-has.result
    (subst (λ (xs : List ℕ). All (IsWithin c.args.frame.now.points) xs) c.order.ensures.order c.order.ensures.within c.args.place 0 c.requires.place)
    (c.joined-has.ensures set (subst (λ column. TellsColumn c.args.frame.now.points set column) (sym c.as_slice.ensures.value) tells)))
