use Rattle.std.proofs.Common.{◌≡◌, ◌<◌, ℕ, List, length, slice_index, sym, ap, subst, ◌∙◌, arith}
use Rattle.flow_graph.specs.Points.{point_count}
use Rattle.flow_links.specs.Shapes.{directed_shape}
use Rattle.flow_regions.specs.code.Lists.{AreLists, AreLow, Has}
use Rattle.flow_regions.proofs.region.points_by_procedure.Goals as goal

pub returns : goal.returns
returns c =
    let n : ℕ = point_count c.args.links.now.program in
    let lists = c.in_ok-lists.ensures in
    let all = c.in_ok-points.ensures in
    let points : c.as_slice-3.result.now ≡ c.in_ok-points.points.items = c.as_slice-3.ensures.value in
    record {
      lists = subst (λ k. AreLists k c.in_ok-lists.lists) c.procedures.ensures.count lists.lists;
      count = lists.count ∙ (ap length points ∙ all.size);
      low = lists.low n (subst (AreLow n) (sym points) all.low);
      each = λ x there.
          let at = all.each x there in
          let key = c.in_ok-keys.ensures.each at.0 (subst (λ (l : List ℕ). at.0 < length l) (sym c.as_slice.ensures.value) at.1)
          ∙ ap (λ (l : List ℕ). (directed_shape c.args.links.now).procedure_of (slice_index l at.0)) c.as_slice.ensures.value
          ∙ ap (directed_shape c.args.links.now).procedure_of at.2 in
          let keys = ap (λ (l : List ℕ). slice_index l at.0) c.as_slice-2.ensures.value ∙ key in
          let value = ap (λ (l : List ℕ). slice_index l at.0) points ∙ at.2 in
          subst (λ k. Has c.in_ok-lists.lists k x) keys
          (subst (λ v. Has c.in_ok-lists.lists (slice_index c.as_slice-2.result.now at.0) v) value
          (lists.has at.0 (subst (λ (l : List ℕ). at.0 < length l) (sym c.as_slice-2.ensures.value)
          (omega (arith, at.1, c.in_ok-keys.ensures.count, ap length c.as_slice.ensures.value)))));
    }

pub lists_of-requires-clause-few : goal.lists_of-requires-clause-few
lists_of-requires-clause-few c =
    omega (
      arith,
      ap length c.as_slice-2.ensures.value,
      c.in_ok-keys.ensures.count,
      ap length c.as_slice.ensures.value,
      c.in_ok-points.ensures.size,
      c.points.ensures.count,
      c.points.type_inv,
    )
