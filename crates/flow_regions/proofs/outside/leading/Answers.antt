use Rattle.std.proofs.Common.{◌≡◌, ◌≤◌, false, slice_index, slice_index_or, inl, inr, arith}
use Rattle.std.proofs.lemmas.Bool.{or_cases}
use Rattle.flow_links.specs.Shapes.{directed_shape}
use Rattle.flow_regions.proofs.outside.leading.Goals as goal

pub returns-clause-leads : goal.returns-clause-leads
returns-clause-leads c site x p call either =
    let many : c.loop-rank.rank-index ≡ (directed_shape c.args.links.now).procedures = omega (arith, c.loop-rank-test.false, c.requires.count) in
    let there = (c.points.ensures.numbered.edge_in_range _ call.1).0 in
    let caller = c.points.ensures.numbered.procedure_in_range x there in
    let up = c.requires.ranked site x p call in
    let low : c.lowest_inside-lowest.result ≤ slice_index c.args.ranks.now p =
    elim (or_cases (slice_index_or c.args.inside.now p false) (slice_index_or c.loop-rank.leads.items p false) either) [
      | inl inside ↦ c.lowest_inside-lowest.ensures p (omega (arith, call.0, c.requires.inside)) inside
      | inr leads ↦ c.loop-rank.invariant.back p (omega (arith, call.0, many)) leads
    ] in
    c.loop-rank.invariant.each ((directed_shape c.args.links.now).procedure_of x) (omega (arith, caller, many)) (omega (arith, low, up))
