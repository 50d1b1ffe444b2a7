use Rattle.std.proofs.Common.{◌≡◌, ◌∙◌, ◌∷◌, ◌++◌, ◌-◌, ◌<◌, ◌≤◌, [], ℕ, Bool, not, ap, arith, filter, if◌then◌else◌}
use Rattle.std.specs.List.{range_with_len}
use Rattle.flow_rounds.specs.Steps.{computes}
use Rattle.flow_rounds.specs.code.Frames.{iteration_of}
use Rattle.flow_rounds.specs.declared.point_range.PointRange.{PointRange}
use Rattle.flow_rounds.specs.code.Frames.{IsWithin}
use Rattle.flow_steps.specs.code.Told.{points_of}
use Rattle.flow_steps.proofs.told.Kept.{all_numbers, kept_all, next_number, range_within}
use Rattle.flow_steps.proofs.sets.known_points.Goals as goal

pub loop-point-preserved : goal.loop-point-preserved
loop-point-preserved c =
    let test : ℕ → Bool = (λ point. not (computes (iteration_of c.args.frame.now) point)) in
    let end : c.points-range.result.end ≡ c.args.frame.now.points.end = ap (λ (p : PointRange). p.end) c.points-range.ensures.points in
    let below : c.loop-point.point < c.args.frame.now.points.end = omega (arith, c.loop-point-test.true, end) in
    next_number test c.loop-point.point c.args.frame.now.points.end c.loop-point.points.items c.push_if.new.list.items
    (filter test (range_with_len c.args.frame.now.points.first (c.args.frame.now.points.end - c.args.frame.now.points.first))) below
    (c.in_ok-push_if.ensures ∙ ap (λ (b : Bool). c.loop-point.points.items ++ (if not b then c.loop-point.point ∷ [] else [])) c.computes.ensures)
    c.loop-point.invariant

pub returns-clause-within : goal.returns-clause-within
returns-clause-within c =
    let test : ℕ → Bool = (λ point. not (computes (iteration_of c.args.frame.now) point)) in
    let end : c.points-range.result.end ≡ c.args.frame.now.points.end = ap (λ (p : PointRange). p.end) c.points-range.ensures.points in
    let most : c.args.frame.now.points.end ≤ c.loop-point.point = omega (arith, c.loop-point-test.false, end) in
    kept_all (IsWithin c.args.frame.now.points) test (points_of c.args.frame.now.points) c.loop-point.points.items
    (all_numbers test c.loop-point.point c.args.frame.now.points.end c.loop-point.points.items (filter test (points_of c.args.frame.now.points)) most
    c.loop-point.invariant) (range_within c.args.frame.now.points)
