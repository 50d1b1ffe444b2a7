use Rattle.std.proofs.Common.{◌≡◌, ◌≤◌, append-nil, length, ◌∙◌, ◌+◌, ◌++◌, ℕ, All, subst, List, ap, drop, filter, slice_index, sym}
use Rattle.std.proofs.lemmas.List.{at_drop_more, drop_all}
use Rattle.flow_steps.specs.code.Told.{differs}
use Rattle.flow_rounds.specs.code.Frames.{IsWithin}
use Rattle.flow_steps.proofs.told.Kept.{kept_all, kept_if, of_all}
use Rattle.flow_steps.proofs.sets.changed_points.Goals as goal

pub loop-point-preserved : goal.loop-point-preserved
loop-point-preserved c =
    sym (ap (λ (order : List ℕ). c.push_if.new.list.items
    ++ filter (differs c.args.frame.now c.args.old.now c.args.new.now) (drop (c.loop-point.point-index + 1) order))
    c.order-point-items.ensures.order)
    ∙ kept_if (differs c.args.frame.now c.args.old.now c.args.new.now) (slice_index c.order-point-items.result.now c.loop-point.point-index)
    (drop (c.loop-point.point-index + 1) c.order-point-items.result.now) c.loop-point.points.items c.push_if.new.list.items
    (filter (differs c.args.frame.now c.args.old.now c.args.new.now) c.args.frame.now.order) c.differs.result c.differs.ensures
    c.in_ok-push_if.ensures
    (sym (at_drop_more (λ (order : List ℕ). c.loop-point.points.items ++ filter (differs c.args.frame.now c.args.old.now c.args.new.now) order)
    c.order-point-items.result.now c.loop-point.point-index 0 c.loop-point-test.true)
    ∙ ap (λ (order : List ℕ). c.loop-point.points.items
    ++ filter (differs c.args.frame.now c.args.old.now c.args.new.now) (drop c.loop-point.point-index order)) c.order-point-items.ensures.order
    ∙ c.loop-point.invariant)

pub returns-clause-within : goal.returns-clause-within
returns-clause-within c =
    let most : length c.args.frame.now.order ≤ c.loop-point.point-index =
    subst (λ (xs : List ℕ). length xs ≤ c.loop-point.point-index) c.order-point-items.ensures.order c.loop-point-test.false in
    let is : c.loop-point.points.items ≡ filter (differs c.args.frame.now c.args.old.now c.args.new.now) c.args.frame.now.order =
    sym (append-nil c.loop-point.points.items) ∙ sym (ap (λ (xs : List ℕ). c.loop-point.points.items
    ++ filter (differs c.args.frame.now c.args.old.now c.args.new.now) xs) (drop_all c.loop-point.point-index c.args.frame.now.order most))
    ∙ c.loop-point.invariant in
    kept_all (IsWithin c.args.frame.now.points) (differs c.args.frame.now c.args.old.now c.args.new.now) c.args.frame.now.order
    c.loop-point.points.items is
    (of_all (IsWithin c.args.frame.now.points) c.args.frame.now.order
    (subst (λ (xs : List ℕ). All (IsWithin c.args.frame.now.points) xs) c.order-point-items.ensures.order c.order-point-items.ensures.within))
