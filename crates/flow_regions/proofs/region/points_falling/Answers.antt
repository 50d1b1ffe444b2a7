use Rattle.std.proofs.Common.{◌≡◌, ◌-◌, ◌<◌, ◌∙◌, ℕ, length, slice_index, arith}
use Rattle.flow_graph.specs.Points.{point_count}
use Rattle.flow_regions.proofs.region.points_falling.Goals as goal

pub returns : goal.returns
returns c =
    let n : ℕ = point_count c.args.links.now.program in
    let count : length c.in_ok-numbers.numbers.items ≡ n = c.in_ok-numbers.ensures.count ∙ c.points.ensures.count in
    record {
      size = count;
      low = λ i under. omega (arith, c.in_ok-numbers.ensures.each i (omega (arith, under, count, c.points.ensures.count)), c.points.ensures.count);
      each = λ x there.
          let j : ℕ = n - 1 - x in
          let low : j < c.points.result = omega (arith, there, c.points.ensures.count) in
          let is : slice_index c.in_ok-numbers.numbers.items j ≡ x = omega (arith, there, c.in_ok-numbers.ensures.each j low, c.points.ensures.count) in
          (j, omega (arith, there, count), is);
    }
