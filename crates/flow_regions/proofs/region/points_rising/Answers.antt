use Rattle.std.proofs.Common.{◌≡◌, ◌<◌, ◌∙◌, ℕ, length, sym, subst, arith}
use Rattle.flow_graph.specs.Points.{point_count}
use Rattle.flow_regions.proofs.region.points_rising.Goals as goal

pub returns : goal.returns
returns c =
    let n : ℕ = point_count c.args.links.now.program in
    let count : length c.in_ok-numbers.numbers.items ≡ n = c.in_ok-numbers.ensures.count ∙ c.points.ensures.count in
    record {
      size = count;
      low = λ i under. subst (λ v. v < n) (sym (c.in_ok-numbers.ensures.each i (omega (arith, under, count, c.points.ensures.count)))) (omega (arith, under, count));
      each = λ x there. (x, omega (arith, there, count), c.in_ok-numbers.ensures.each x (omega (arith, there, c.points.ensures.count)));
    }
