use Rattle.std.proofs.Common.{◌<◌, ◌≤◌, ◌∙◌, ℕ, List, subst, sym, take, length}
use Rattle.std.proofs.lemmas.List.{take_all}
use Rattle.std.proofs.lemmas.List.Sums.{fold_more}
use Rattle.flow_rounds.specs.Rounds.{after_round, with_point}
use Rattle.flow_rounds.specs.Steps.{problem_at}
use Rattle.flow_rounds.specs.code.Frames.{TellsColumn, iteration_of}
use Rattle.flow_rounds.proofs.columns.next_column.Goals as goal

pub loop-place-preserved : goal.loop-place-preserved
loop-place-preserved c =
    let below : c.loop-place.place < length c.args.frame.now.order =
    subst (λ (xs : List ℕ). c.loop-place.place < length xs) c.order-place-end.ensures.order c.loop-place-test.true in (
      c.compute_bit.ensures.sized ∙ c.loop-place.invariant.0,
      λ set tells. subst (λ s. TellsColumn c.args.frame.now.points s c.compute_bit.new.column.items)
          (sym (fold_more (with_point (problem_at (iteration_of c.args.frame.now) c.args.bit)) set c.args.frame.now.order c.loop-place.place
          0 below))
          (c.compute_bit.ensures.computed
          (after_round (problem_at (iteration_of c.args.frame.now) c.args.bit) (take c.loop-place.place c.args.frame.now.order) set)
          (c.loop-place.invariant.1 set tells)),
    )

pub returns : goal.returns
returns c set tells =
    let most : length c.args.frame.now.order ≤ c.loop-place.place =
    subst (λ (xs : List ℕ). length xs ≤ c.loop-place.place) c.order-place-end.ensures.order c.loop-place-test.false in
    subst (λ (xs : List ℕ). TellsColumn c.args.frame.now.points (after_round (problem_at (iteration_of c.args.frame.now) c.args.bit) xs set)
    c.loop-place.bits.items) (take_all c.loop-place.place c.args.frame.now.order most) (c.loop-place.invariant.1 set tells)
